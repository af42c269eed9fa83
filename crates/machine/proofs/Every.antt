-- Every member of a list has a property: kept by taking, dropping, turning round and joining.
use Prim.Native.Nat.{ℕ, zero, suc}
use mathlib.Core.List.{List, [], ◌∷◌, ◌++◌, reverse, reverse_aux}
use lib.ListN.{take, drop}

pub data Every {A : Type 0} (P : A → Type 0) : List A → Type 0 where
  none : Every P []
  also : {x : A} {xs : List A} → P x → Every P xs → Every P (x ∷ xs)

module _ {A : Type 0} {P : A → Type 0} where
  pub every_take : (n : ℕ) {xs : List A} → Every P xs → Every P (take n xs)
  every_take zero e = none
  every_take (suc n) none = none
  every_take (suc n) (also p e) = also p (every_take n e)

  pub every_drop : (n : ℕ) {xs : List A} → Every P xs → Every P (drop n xs)
  every_drop zero e = e
  every_drop (suc n) none = none
  every_drop (suc n) (also p e) = every_drop n e

  turned : {xs ys : List A} → Every P xs → Every P ys → Every P (reverse_aux xs ys)
  turned none d = d
  turned (also p e) d = turned e (also p d)

  pub every-reverse : {xs : List A} → Every P xs → Every P (reverse xs)
  every-reverse e = turned e none

  pub every_append : {xs ys : List A} → Every P xs → Every P ys → Every P (xs ++ ys)
  every_append none d = d
  every_append (also p e) d = also p (every_append e d)
