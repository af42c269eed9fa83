-- The table's tests say what the facts say. A test reads the front of the index, as it was when the record was judged; what it
-- reads there is what the whole index holds, so a test that holds gives the fact of the decoded database; for variables and $f also
-- the other way.
use Prim.Native.Nat.{ℕ, ◌≤◌, ◌<◌}
use mathlib.Core.Path.{◌≡◌, sym}
use mathlib.Core.Bool.{true}
use mathlib.Core.Logic.{inl, inr}
use mathlib.Core.List.{List}
use native.Mathlib.Omega.{arith}
use lib.ListN.{length, take, get_or, length-take}
use lib.Seq.{get_or-take}
use Rattle.frames.specs.Logic.{below}
use Rattle.frames.specs.Layout.{class_at, variable_at}
use Rattle.frames.specs.Table.{class_of, constant, variable, within, active, float_of, float_below, has_float, symbol_given, all_given}
use Rattle.frames.specs.Verdict.{Index}
use Rattle.frames.specs.Database.{symbol_at, statement_at, decode}
use Rattle.frames.specs.Facts.{◌∈◌, statement_of, floated, Constant, Variable, Active, Floats, Given}
use Rattle.frames.proofs.Chains.{pick_first, below_true, below-yes, equal-true, equal-yes, both-second}
use Rattle.frames.proofs.Tells.{true-not-false, both_true, either-cases, all-member, any-witness, no_true}
use Rattle.facts.proofs.Kept.{pick-cases}
use Rattle.facts.proofs.Decoded.{end_read, symbols-length, symbol-read, statement-read, supposes-kind}

-- a number whose class is 0 or 1 is defined, and its record has that class
class-read : (f syms : List ℕ) (n s c : ℕ) → c < 2 → class_of f (take n syms) s ≡ c
    → (s < length syms) × (class_at f (get_or syms s 0) ≡ c)
unfolding class_of
class-read f syms n s c small =
    pick-cases (λ r. r ≡ c → (s < length syms) × (class_at f (get_or syms s 0) ≡ c)) (below s (length (take n syms)))
    (class_at f (get_or (take n syms) s 0)) 2 (λ t e. here (below_true _ _ t) e) (λ t e. absurd (omega arith))
  where
    here : s < length (take n syms) → class_at f (get_or (take n syms) s 0) ≡ c → (s < length syms) × (class_at f (get_or syms s 0) ≡ c)
    here h e =
        (omega (arith, length-take n syms), rw (get_or-take n syms s 0 (omega (arith, length-take n syms))) at e)

module _ (f : List ℕ) (ix : Index) where
  pub constant-is : (n s : ℕ) → constant f (take n ix.symbols) s ≡ true → Constant (decode f ix) s
  unfolding constant symbol_at
  constant-is n s e =
      let r = class-read f ix.symbols n s 0 (omega arith) (equal-true _ _ e) in
      record { defined = rw (symbols-length f ix) r.0; class = rw (symbol-read f ix s r.0) r.1 }

  pub variable-is : (n s : ℕ) → variable f (take n ix.symbols) s ≡ true → Variable (decode f ix) s
  unfolding variable symbol_at
  variable-is n s e =
      let r = class-read f ix.symbols n s 1 (omega arith) (equal-true _ _ e) in
      record { defined = rw (symbols-length f ix) r.0; class = rw (symbol-read f ix s r.0) r.1 }

  pub is-variable : (n s : ℕ) → s < n → n ≤ length ix.symbols → Variable (decode f ix) s
      → variable f (take n ix.symbols) s ≡ true
  unfolding variable class_of symbol_at
  is-variable n s l h v =
      let inside : s < length (take n ix.symbols) = omega (arith, length-take n ix.symbols) in
      let c : class_at f (get_or ix.symbols s 0) ≡ 1 = rw (symbol-read f ix s (omega arith)) at v.class in
      equal-yes (sym (pick_first 2 (below-yes inside) (rw (get_or-take n ix.symbols s 0 l) (sym c))))

  module _ (p : ℕ) (inside : p ≤ length ix.statements) where
    -- statement h of the front is statement h
    front : (h : ℕ) → h < p → get_or (take p ix.statements) h 0 ≡ get_or ix.statements h 0
    front h l = get_or-take p ix.statements h 0 l

    read : (h : ℕ) → h < p → statement_of (decode f ix) h ≡ statement_at f (get_or ix.statements h 0)
    read h l = statement-read f ix h (omega arith)

    pub active-is : (h : ℕ) → active f (take p ix.statements) p h ≡ true → Active (decode f ix) p h
    unfolding active within statement_at
    active-is h e =
        let b = both_true _ _ e in
        let l : h < p = below_true _ _ b.0 in
        let g = both_true _ _ (rw (front h l) at b.1) in
        record {
          earlier = l;
          kind = rw (read h l) (supposes-kind _ g.0);
          scope = rw (read h l) (rw (end_read f (get_or ix.statements h 0) g.0) (either-cases _ _ (λ t. inl (equal-true _ _ t)) (λ t. inr (below_true _ _ t)) g.1));
        }

    pub floats-is : (v h : ℕ) → h < p → float_of f (take p ix.statements) v h ≡ true → Floats (decode f ix) v h
    unfolding float_of floated variable_at statement_at
    floats-is v h l e =
        let b = both_true _ _ (rw (front h l) at e) in
        record { kind = rw (read h l) (equal-true _ _ b.0); variable = rw (read h l) (equal-true _ _ b.1) }

    pub is-floats : (v h : ℕ) → h < p → Floats (decode f ix) v h → float_of f (take p ix.statements) v h ≡ true
    unfolding float_of floated variable_at statement_at
    is-floats v h l e =
        rw (front h l)
        (sym (both-second (equal-yes (rw (read h l) at e.kind)) (sym (equal-yes (rw (read h l) at e.variable)))))

    pub given_is : (hyps : List ℕ) (limit v : ℕ) → limit ≤ p → has_float f (take p ix.statements) hyps limit v ≡ true
        → Given (decode f ix) hyps limit v
    unfolding has_float float_below
    given_is hyps limit v l e =
        let w = any-witness _ hyps e in
        let b = both_true _ _ w.2 in
        let h : w.0 < limit = below_true _ _ b.0 in
        record { by = w.0; listed = w.1; before = h; floats = floats-is v w.0 (omega arith) b.1 }

    -- each variable among the symbols is given
    pub all-given-is : (n : ℕ) (hyps : List ℕ) (limit : ℕ) (xs : List ℕ) (v : ℕ) → n ≤ length ix.symbols → limit ≤ p
        → all_given f (take n ix.symbols) (take p ix.statements) hyps limit xs ≡ true → v ∈ xs → v < n
        → Variable (decode f ix) v → Given (decode f ix) hyps limit v
    unfolding all_given symbol_given
    all-given-is n hyps limit xs v known l e m h var =
        either-cases _ _ (λ t. absurd (true-not-false (is-variable n v h known var) (no_true _ t)))
        (λ t. given_is hyps limit v l t) (all-member _ xs e m)
