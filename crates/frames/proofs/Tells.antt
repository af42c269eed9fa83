-- What a test that held, or failed, tells of its parts: the laws of `Chains` read backwards. A chain of refusals that ends in
-- `Fine` had each of its tests fail, and a list that passes passes at each member.
use Prim.Native.Nat.{ℕ, ◌≤◌}
use mathlib.Core.Path.{◌≡◌, refl}
use mathlib.Core.Bool.{Bool, true, false}
use mathlib.Core.Logic.{◌⊎◌, inl, inr}
use mathlib.Core.List.Memᴰ
use mathlib.Core.List.{List, [], ◌∷◌, Memᴰ}
use native.Mathlib.Omega.{arith}
use Rattle.frames.specs.Logic.{either, both, no, one_of, all, any}

-- a number that is not 0 is at least 1
pub not-zero : (n : ℕ) → (n ≡ 0 → ⊥) → 1 ≤ n
not-zero n h = omega arith

-- a test does not both hold and fail
pub true-not-false : {t : Bool} → t ≡ true → t ≡ false → ⊥
true-not-false a b = let z : ◌≡◌ {A = ℕ} 0 1 = cc in omega arith

pub either-false : (t u : Bool) → either t u ≡ false → (t ≡ false) × (u ≡ false)
unfolding either
either-false true u e = absurd (true-not-false refl e)
either-false false u e = (refl, e)

pub either_true : (t u : Bool) → either t u ≡ true → (t ≡ true) ⊎ (u ≡ true)
unfolding either
either_true true u e = inl refl
either_true false u e = inr e

pub both_true : (t u : Bool) → both t u ≡ true → (t ≡ true) × (u ≡ true)
unfolding both
both_true true u e = (refl, e)
both_true false u e = absurd (true-not-false e refl)

-- of two tests that do not both hold, the second fails where the first holds
pub both_false : (t u : Bool) → both t u ≡ false → t ≡ true → u ≡ false
unfolding both
both_false true u e h = e
both_false false u e h = absurd (true-not-false h refl)

pub no_false : (t : Bool) → no t ≡ false → t ≡ true
unfolding no
no_false true e = refl
no_false false e = absurd (true-not-false refl e)

pub no_true : (t : Bool) → no t ≡ true → t ≡ false
unfolding no
no_true true e = absurd (true-not-false e refl)
no_true false e = refl

-- no test of the list holds
pub one_of-false : (t : Bool) (ts : List Bool) → one_of (t ∷ ts) ≡ false → (t ≡ false) × (one_of ts ≡ false)
unfolding one_of
one_of-false t ts e = either-false t (one_of ts) e

-- a member of a list is its first, or one of the others
at-cons : {A : Type 0} (P : A → Type 0) {x y : A} {ys : List A} → P y → (Memᴰ x ys → P x) → Memᴰ x (y ∷ ys) → P x
at-cons P {x} {y} {ys} first later m = here (Memᴰ.cases_cons m)
  where
    here : (x ≡ y) ⊎ Memᴰ x ys → P x
    here (inl q) = rw q first
    here (inr m') = later m'

-- every member of a list that passes passes
pub all-member : {A : Type 0} (p : A → Bool) (xs : List A) {x : A} → all p xs ≡ true → Memᴰ x xs → p x ≡ true
unfolding all
all-member p [] e m = absurd (Memᴰ.not-nil m)
all-member p (y ∷ ys) e m =
    let h = both_true (p y) (all p ys) e in
    at-cons (λ x. p x ≡ true) h.0 (all-member p ys h.1) m

-- no member of a list without a passing member passes
pub any-member : {A : Type 0} (p : A → Bool) (xs : List A) {x : A} → any p xs ≡ false → Memᴰ x xs → p x ≡ false
unfolding any
any-member p [] e m = absurd (Memᴰ.not-nil m)
any-member p (y ∷ ys) e m =
    let h = either-false (p y) (any p ys) e in
    at-cons (λ x. p x ≡ false) h.0 (any-member p ys h.1) m

-- where some member passes, here is one
pub any-witness : {A : Type 0} (p : A → Bool) (xs : List A) → any p xs ≡ true → (x : A) × Memᴰ x xs × (p x ≡ true)
unfolding any
any-witness p [] e = absurd (true-not-false e refl)
any-witness {A} p (y ∷ ys) e = here (any-witness p ys) (either_true (p y) (any p ys) e)
  where
    here : (any p ys ≡ true → (x : A) × Memᴰ x ys × (p x ≡ true)) → (p y ≡ true) ⊎ (any p ys ≡ true)
        → (x : A) × Memᴰ x (y ∷ ys) × (p x ≡ true)
    here later (inl h) = (y, Memᴰ.head refl, h)
    here later (inr h) = let w = later h in (w.0, Memᴰ.tail w.1, w.2)

-- what follows from either test follows from one of them
pub either-cases : {P : Type 0} (t u : Bool) → (t ≡ true → P) → (u ≡ true → P) → either t u ≡ true → P
unfolding either
either-cases true u first second e = first refl
either-cases false u first second e = second e

pub one_of-cases : {P : Type 0} (t : Bool) (ts : List Bool) → (t ≡ true → P) → (one_of ts ≡ true → P) → one_of (t ∷ ts) ≡ true → P
unfolding one_of
one_of-cases t ts first others e = either-cases t (one_of ts) first others e

pub one_of-none : one_of [] ≡ true → ⊥
unfolding one_of
one_of-none e = true-not-false e refl
