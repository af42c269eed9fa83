-- Where the name of a symbol lies: the record lists nothing, so that the name follows the class.
use Prim.Native.Nat.{ℕ, ◌+◌, ◌-◌}
use mathlib.Core.Path.{◌≡◌, refl}
use mathlib.Core.List.{List}
use native.Mathlib.Omega.{arith}
use lib.ListN.{take, drop}
use Rattle.frames.specs.Logic.{either, equal, pick}
use Rattle.frames.specs.Layout.{kind_at, length_at, next_at, fixed_size, asserts, lists_symbols, hyp_count, pair_count, listed_count, lists_from, pairs_from, listed_from, rest_from, rest_size, rest_at}

module _ (f : List ℕ) (o : ℕ) (kind : kind_at f o ≡ 1) where
  name-from : rest_from f o ≡ o + 7
  unfolding rest_from listed_from pairs_from lists_from hyp_count pair_count listed_count lists_symbols asserts either equal pick fixed_size
  name-from = rw kind (omega arith)

  name_size : rest_size f o ≡ length_at f o - 3
  unfolding rest_size next_at
  name_size = let from = name-from in omega arith

  pub name-is : (from size : ℕ) → from ≡ o + 7 → size ≡ length_at f o - 3 → take size (drop from f) ≡ rest_at f o
  unfolding rest_at
  name-is from size a b = rw (a, b, name-from, name_size) refl
