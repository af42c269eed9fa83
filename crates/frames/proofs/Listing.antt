-- Where the symbols of a $e, $a or $p begin, and what a $f lists: its fixed part is six bytes, and only a $a or $p lists hypotheses and pairs.
use Prim.Native.Nat.{ℕ, ◌+◌, ◌*◌}
use mathlib.Core.Path.{◌≡◌, refl, ap, ◌∙◌}
use mathlib.Core.Bool.{true}
use mathlib.Core.Logic.{◌⊎◌, inl, inr}
use mathlib.Core.List.{List, [], ◌∷◌}
use native.Mathlib.Omega.{arith}
use lib.ListN.{get_or}
use Rattle.frames.specs.Logic.{either, equal, pick, rows}
use Rattle.frames.specs.Layout.{u16, kind_at, fixed_size, asserts, hyp_count, pair_count, lists_from, pairs_from, listed_from, symbol_count, symbols_from, symbols_at}
use Rattle.frames.proofs.Chains.{equal-true}
use Rattle.frames.proofs.Tells.{either_true}

-- the fixed part of a $a or $p
asserts-size : (k : ℕ) → asserts k ≡ true → fixed_size k ≡ 6
unfolding asserts fixed_size
asserts-size k e = of (either_true (equal k 4) (equal k 5) e)
  where
    of : (equal k 4 ≡ true) ⊎ (equal k 5 ≡ true) → fixed_size k ≡ 6
    of (inl a) = rw (equal-true k 4 a) refl
    of (inr a) = rw (equal-true k 5 a) refl

module _ (f : List ℕ) (o : ℕ) where
  pub essential-from : kind_at f o ≡ 3 → listed_from f o ≡ o + 12
  unfolding listed_from pairs_from lists_from hyp_count pair_count asserts either equal pick fixed_size
  essential-from kind = rw kind (omega arith)

  pub assertion-from : asserts (kind_at f o) ≡ true → listed_from f o ≡ o + 12 + 4 * u16 f (o + 6) + 4 * u16 f (o + 8)
  unfolding listed_from pairs_from lists_from hyp_count pair_count pick
  assertion-from kind = rw (kind, asserts-size (kind_at f o) kind) (omega arith)

  -- the two symbols of a $f
  float_symbols : kind_at f o ≡ 2 → symbols_at f o ≡ u16 f (o + 10) ∷ u16 f (o + 10 + 2) ∷ []
  unfolding symbols_at symbol_count symbols_from equal pick rows
  float_symbols kind = rw kind refl

  pub float-first : {n : ℕ} → kind_at f o ≡ 2 → n ≡ u16 f (o + 10) → n ≡ get_or (symbols_at f o) 0 0
  float-first kind e = rw (float_symbols kind) e

  pub float-second : {n : ℕ} → kind_at f o ≡ 2 → n ≡ u16 f (o + 12) → n ≡ get_or (symbols_at f o) 1 0
  float-second kind e = let here : o + 12 ≡ o + 10 + 2 = omega arith in rw (float_symbols kind) (e ∙ ap (u16 f) here)
