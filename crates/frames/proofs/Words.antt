-- The words for lists of specs/Logic.antt are the library's: what a chain or `==` answers is what the definitions ask.
use Prim.Native.Nat.{ℕ, suc, ◌+◌}
use mathlib.Core.Path.{◌≡◌, refl, sym, ap, ap₂, ◌∙◌}
use mathlib.Core.Bool.{Bool, true, false, ◌&&◌, ◌||◌}
use mathlib.Core.List.{List, [], ◌∷◌}
use lib.Dec.{eqb}
use lib.Pointwise.{pointwise}
use Rattle.std.specs.List.{list_all, list_any, range_with_len}
use lib.ListN.{length, get_or}
use native.Mathlib.Omega.{arith}
use Rattle.frames.specs.Logic.{equal, both, either, all, any, same}

both-and : (a b : Bool) → (a && b) ≡ both a b
unfolding both
both-and true b = refl
both-and false b = refl

either-or : (a b : Bool) → (a || b) ≡ either a b
unfolding either
either-or true b = refl
either-or false b = refl

-- every member passes, and some member does
pub list_all-all : {A : Type 0} (p : A → Bool) (xs : List A) → list_all p xs ≡ all p xs
unfolding all
list_all-all p [] = refl
list_all-all p (x ∷ xs) = both-and (p x) (list_all p xs) ∙ ap (both (p x)) (list_all-all p xs)

pub list_any-any : {A : Type 0} (p : A → Bool) (xs : List A) → list_any p xs ≡ any p xs
unfolding any
list_any-any p [] = refl
list_any-any p (x ∷ xs) = either-or (p x) (list_any p xs) ∙ ap (either (p x)) (list_any-any p xs)

-- two lists of numbers are equal
pub pointwise-same : (xs ys : List ℕ) → pointwise eqb xs ys ≡ same xs ys
unfolding same equal
pointwise-same [] [] = refl
pointwise-same [] (y ∷ ys) = refl
pointwise-same (x ∷ xs) [] = refl
pointwise-same (x ∷ xs) (y ∷ ys) = both-and (eqb x y) (pointwise eqb xs ys) ∙ ap (both (eqb x y)) (pointwise-same xs ys)

-- a chain over the indices of a list asks of what stands at each
at-first : {A : Type 0} (f : ℕ → A) (a : ℕ) (x : A) → f (a + 0) ≡ x → f a ≡ x
at-first f a x h = let e : a ≡ a + 0 = omega arith in ap f e ∙ h

at-next : {A : Type 0} (f g : ℕ → A) (a : ℕ) → ((k : ℕ) → f (a + k) ≡ g k) → (k : ℕ) → f (a + 1 + k) ≡ g (suc k)
at-next f g a h k = let e : a + 1 + k ≡ a + suc k = omega arith in ap f e ∙ h (suc k)

all-from : {A : Type 0} (p : A → Bool) (f : ℕ → A) (d : A) (xs : List A) (a : ℕ) → ((k : ℕ) → f (a + k) ≡ get_or xs k d)
    → list_all (λ i. p (f i)) (range_with_len a (length xs)) ≡ all p xs
unfolding all
all-from p f d [] a h = refl
all-from p f d (x ∷ xs) a h =
    both-and (p (f a)) _ ∙ ap₂ both (ap p (at-first f a x (h 0))) (all-from p f d xs (a + 1) (at-next f (λ k. get_or (x ∷ xs) k d) a h))

any-from : {A : Type 0} (p : A → Bool) (f : ℕ → A) (d : A) (xs : List A) (a : ℕ) → ((k : ℕ) → f (a + k) ≡ get_or xs k d)
    → list_any (λ i. p (f i)) (range_with_len a (length xs)) ≡ any p xs
unfolding any
any-from p f d [] a h = refl
any-from p f d (x ∷ xs) a h =
    either-or (p (f a)) _ ∙ ap₂ either (ap p (at-first f a x (h 0))) (any-from p f d xs (a + 1) (at-next f (λ k. get_or (x ∷ xs) k d) a h))

pub all-indexed : {A : Type 0} (p : A → Bool) (xs : List A) (d : A) → list_all (λ i. p (get_or xs i d)) (range_with_len 0 (length xs)) ≡ all p xs
all-indexed p xs d = all-from p (λ i. get_or xs i d) d xs 0 (λ k. let e : 0 + k ≡ k = omega arith in ap (λ i. get_or xs i d) e)

pub any-indexed : {A : Type 0} (p : A → Bool) (xs : List A) (d : A) → list_any (λ i. p (get_or xs i d)) (range_with_len 0 (length xs)) ≡ any p xs
any-indexed p xs d = any-from p (λ i. get_or xs i d) d xs 0 (λ k. let e : 0 + k ≡ k = omega arith in ap (λ i. get_or xs i d) e)
