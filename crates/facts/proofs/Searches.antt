-- What the searches and the test of activity say of the decoded database: a name or label that is found is the one of that number,
-- one that is not found is nobody's, and a $f or $e is active exactly when the test says so.
use Prim.Native.Nat.{ℕ, ◌<◌}
use mathlib.Core.Path.{◌≡◌, refl, sym}
use mathlib.Core.Bool.{Bool, true, false}
use mathlib.Core.Logic.{◌⊎◌, inl, inr}
use mathlib.Core.List.{List}
use lib.ListN.{length, get_or}
use Rattle.frames.specs.Logic.{below, equal, either}
use Rattle.frames.specs.Layout.{supposes}
use Rattle.frames.specs.Table.{used, within, active}
use Rattle.frames.specs.Verdict.{Index}
use Rattle.frames.specs.Database.{symbol_at, statement_at, decode}
use Rattle.frames.specs.Facts.{symbol_of, statement_of, Active}
use Rattle.frames.proofs.Chains.{below-yes, below_true, equal-yes, equal-true, either_first, both-second}
use Rattle.frames.proofs.Found.{used-index}
use Rattle.frames.proofs.Tells.{true-not-false, both_true, either-cases}
use Rattle.facts.proofs.Decoded.{end_read, symbol-read, statement-read, supposes-kind}

-- the second test decides where it holds
either-settled : (t u : Bool) → u ≡ true → either t u ≡ true
unfolding either
either-settled true u e = refl
either-settled false u e = e

supposes-told : (k : ℕ) → (k ≡ 2) ⊎ (k ≡ 3) → supposes k ≡ true
unfolding supposes
supposes-told k (inl e) = sym (either_first (equal k 3) (equal-yes e) refl)
supposes-told k (inr e) = either-settled (equal k 2) (equal k 3) (equal-yes e)

within-told : (end p : ℕ) → (end ≡ 4294967295) ⊎ (p < end) → within end p ≡ true
unfolding within
within-told end p (inl e) = sym (either_first (below p end) (equal-yes e) refl)
within-told end p (inr h) = either-settled (equal end 4294967295) (below p end) (below-yes h)

module _ (f : List ℕ) (ix : Index) where
  -- what is active passes the test
  pub is-active : (p h : ℕ) → h < length ix.statements → Active (decode f ix) p h → active f ix.statements p h ≡ true
  unfolding active statement_at
  is-active p h l v =
      let k = supposes-told _ (rw (statement-read f ix h l) at v.kind) in
      sym
      (both-second (below-yes v.earlier)
      (both-second k
      (sym
      (within-told _ p (rw (end_read f (get_or ix.statements h 0) k) at (rw (statement-read f ix h l) at v.scope))))))

  -- and what passes the test is active
  pub active-means : (p h : ℕ) → h < length ix.statements → active f ix.statements p h ≡ true → Active (decode f ix) p h
  unfolding active within statement_at
  active-means p h l e =
      let b = both_true _ _ e in
      let g = both_true _ _ b.1 in
      record {
        earlier = below_true _ _ b.0;
        kind = rw (statement-read f ix h l) (supposes-kind _ g.0);
        scope =
            rw (statement-read f ix h l)
            (rw (end_read f (get_or ix.statements h 0) g.0)
            (either-cases _ _ (λ t. inl (equal-true _ _ t)) (λ t. inr (below_true _ _ t)) g.1));
      }

  -- the symbol that a search finds has the name
  pub found-symbol : (s : ℕ) (name : List ℕ) → s < length ix.symbols → (symbol_at f (get_or ix.symbols s 0)).name ≡ name
      → (symbol_of (decode f ix) s).name ≡ name
  found-symbol s name h e = rw (symbol-read f ix s h) e

  -- and where it finds none, no symbol has it
  pub unfound-symbol : (s : ℕ) (name : List ℕ) → s < length ix.symbols → used f ix.symbols name ≡ false
      → (symbol_of (decode f ix) s).name ≡ name → ⊥
  unfolding symbol_at
  unfound-symbol s name h u e =
      true-not-false (sym (used-index f ix.symbols name s h (rw (symbol-read f ix s h) at e))) u

  -- the statement that a search finds has the label
  pub found-statement : (p : ℕ) (label : List ℕ) → p < length ix.statements
      → (statement_at f (get_or ix.statements p 0)).label ≡ label → (statement_of (decode f ix) p).label ≡ label
  found-statement p label h e = rw (statement-read f ix p h) e

  -- and where it finds none, no statement has it
  pub unfound-statement : (p : ℕ) (label : List ℕ) → p < length ix.statements → used f ix.statements label ≡ false
      → (statement_of (decode f ix) p).label ≡ label → ⊥
  unfolding statement_at
  unfound-statement p label h u e =
      true-not-false (sym (used-index f ix.statements label p h (rw (statement-read f ix p h) at e))) u
