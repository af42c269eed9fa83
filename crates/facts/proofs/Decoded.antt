-- The decoded database, read by number: the symbol of a number is the record at the offset of that number, and so is the
-- statement; and what the kinds 2 to 5 are.
use Prim.Native.Nat.{ℕ, zero, suc, ◌≤◌, ◌<◌}
use mathlib.Core.Path.{◌≡◌, refl, sym}
use mathlib.Core.Bool.{true, false}
use mathlib.Core.Logic.{◌⊎◌, inl, inr}
use mathlib.Core.List.{List, [], ◌∷◌, map}
use native.Mathlib.Omega.{arith}
use native.Mathlib.Decide.{ℕ_discrete}
use lib.ListN.{length, get_or, length-map}
use Rattle.frames.specs.Logic.{equal, either}
use Rattle.frames.specs.Layout.{asserts, supposes, lists_symbols, is_statement, kind_at, next_at, scope_end_at, rest_at}
use Rattle.frames.specs.Verdict.{Index, index}
use Rattle.frames.specs.Database.{symbol_at, statement_at, decode, database}
use Rattle.frames.specs.Facts.{symbol_of, statement_of}
use Rattle.frames.proofs.Chains.{pick_first, equal-yes, equal-no, equal-true, either_first, either_second}
use Rattle.frames.proofs.Tells.{either-cases}

get_or_map : {A B : Type 0} (g : A → B) (xs : List A) (i : ℕ) (d : A) (e : B) → i < length xs → get_or (map g xs) i e ≡ g (get_or xs i d)
get_or_map g [] i d e h = absurd (omega arith)
get_or_map g (x ∷ xs) zero d e h = refl
get_or_map g (x ∷ xs) (suc i) d e h = get_or_map g xs i d e (omega arith)

-- the scope end of a $f or $e, and the proof text of a $p
pub end_read : (f : List ℕ) (o : ℕ) → supposes (kind_at f o) ≡ true → (statement_at f o).end ≡ scope_end_at f o
unfolding statement_at
end_read f o e = sym (pick_first 0 e refl)

pub text-read : (f : List ℕ) (o : ℕ) → kind_at f o ≡ 5 → (statement_at f o).text ≡ rest_at f (next_at f o)
unfolding statement_at
text-read f o e = sym (pick_first [] (equal-yes e) refl)

module _ (f : List ℕ) (ix : Index) where
  pub symbols-length : length (decode f ix).symbols ≡ length ix.symbols
  unfolding decode
  symbols-length = length-map ix.symbols (symbol_at f)

  pub statements-length : length (decode f ix).statements ≡ length ix.statements
  unfolding decode
  statements-length = length-map ix.statements (statement_at f)

  pub symbol-read : (s : ℕ) → s < length ix.symbols → symbol_of (decode f ix) s ≡ symbol_at f (get_or ix.symbols s 0)
  unfolding decode symbol_of
  symbol-read s h = get_or_map (symbol_at f) ix.symbols s 0 _ h

  pub statement-read : (p : ℕ) → p < length ix.statements
      → statement_of (decode f ix) p ≡ statement_at f (get_or ix.statements p 0)
  unfolding decode statement_of
  statement-read p h = get_or_map (statement_at f) ix.statements p 0 _ h

-- the same for the database of a file
module _ (f : List ℕ) where
  pub database-symbols : length (database f).symbols ≡ length (index f).symbols
  unfolding database
  database-symbols = symbols-length f (index f)

  pub database-statements : length (database f).statements ≡ length (index f).statements
  unfolding database
  database-statements = statements-length f (index f)

  pub database-symbol : (s : ℕ) → s < length (index f).symbols
      → symbol_of (database f) s ≡ symbol_at f (get_or (index f).symbols s 0)
  unfolding database
  database-symbol s h = symbol-read f (index f) s h

  pub database-statement : (p : ℕ) → p < length (index f).statements
      → statement_of (database f) p ≡ statement_at f (get_or (index f).statements p 0)
  unfolding database
  database-statement p h = statement-read f (index f) p h

-- the kinds of statements are 2 to 5
pub kind-range : (k : ℕ) → is_statement k ≡ true → (2 ≤ k) × (k ≤ 5)
unfolding is_statement supposes asserts
kind-range k =
    either-cases _ _ (either-cases _ _ (λ e. omega (arith, equal-true k 2 e)) (λ e. omega (arith, equal-true k 3 e)))
    (either-cases _ _ (λ e. omega (arith, equal-true k 4 e)) (λ e. omega (arith, equal-true k 5 e)))

-- $f and $e are the kinds 2 and 3
pub supposes-kind : (k : ℕ) → supposes k ≡ true → (k ≡ 2) ⊎ (k ≡ 3)
unfolding supposes
supposes-kind k = either-cases _ _ (λ e. inl (equal-true k 2 e)) (λ e. inr (equal-true k 3 e))

-- $a and $p are the kinds 4 and 5
pub asserts-yes : (k : ℕ) → 4 ≤ k → k ≤ 5 → asserts k ≡ true
unfolding asserts
asserts-yes k h g = here (ℕ_discrete k 4)
  where
    here : Dec (k ≡ 4) → either (equal k 4) (equal k 5) ≡ true
    here (yes e) = sym (either_first (equal k 5) (equal-yes e) refl)
    here (no n) = sym (either_second (equal-no n) (sym (equal-yes (omega arith))))

pub asserts-no : (k : ℕ) → k ≤ 3 → asserts k ≡ false
unfolding asserts
asserts-no k h = sym (either_second (equal-no (λ e. omega arith)) (sym (equal-no (λ e. omega arith))))

-- $e, $a and $p list n symbols
pub lists-yes : (k : ℕ) → 3 ≤ k → k ≤ 5 → lists_symbols k ≡ true
unfolding lists_symbols
lists-yes k h g = here (ℕ_discrete k 3)
  where
    here : Dec (k ≡ 3) → either (equal k 3) (asserts k) ≡ true
    here (yes e) = sym (either_first (asserts k) (equal-yes e) refl)
    here (no n) = sym (either_second (equal-no n) (sym (asserts-yes k (omega arith) g)))
