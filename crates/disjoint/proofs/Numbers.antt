-- The numbers of variables, and tests on lists that agree at every member.
use Prim.Native.Nat.{ℕ, suc, ◌+◌, ◌<◌}
use mathlib.Core.Path.{◌≡◌, refl, sym, ap, ap₂, ◌∙◌}
use mathlib.Core.Bool.{Bool, true, false}
use mathlib.Core.Logic.{◌⊎◌, inl, inr}
use mathlib.Core.List.Memᴰ
use mathlib.Core.List.{List, [], ◌∷◌, ◌++◌}
use native.Mathlib.Omega.{arith}
use lib.ListN.{length, get_or}
use Rattle.frames.specs.Logic.{equal, pick, either, both, all, any}
use Rattle.frames.specs.Facts.{◌∈◌}
use Rattle.frames.proofs.Chains.{equal-yes, equal-true, equal-false, pick_first}
use Rattle.frames.proofs.Tells.{any-witness, any-member}
use Rattle.machine.specs.Ground.{among}
use Rattle.packed.specs.Images.{number_in}
use Rattle.variables.specs.Numbering.{tag, Numbered}

-- two tests that follow from each other are the same
pub alike : (t u : Bool) → (t ≡ true → u ≡ true) → (u ≡ true → t ≡ true) → t ≡ u
alike true u h g = sym (h refl)
alike false true h g = g refl
alike false false h g = refl

-- a list passes where every member does
pub all-each : {A : Type 0} (p : A → Bool) (xs : List A) → ((x : A) → x ∈ xs → p x ≡ true) → all p xs ≡ true
unfolding all both
all-each p [] h = refl
all-each p (x ∷ xs) h = rw (h x (Memᴰ.head refl)) (all-each p xs (λ y m. h y (Memᴰ.tail m)))

-- a list has a passing member where one is known
pub any_of : {A : Type 0} (p : A → Bool) (xs : List A) {x : A} → x ∈ xs → p x ≡ true → any p xs ≡ true
any_of p xs {x} m e = tried (any p xs) refl
  where
    tried : (t : Bool) → any p xs ≡ t → any p xs ≡ true
    tried true q = q
    tried false q = absurd (let z : ◌≡◌ {A = ℕ} 0 1 = cc (any-member p xs q m) in omega arith)

-- tests that agree at every member
pub any_same : {A : Type 0} (p q : A → Bool) (xs : List A) → ((x : A) → x ∈ xs → p x ≡ q x) → any p xs ≡ any q xs
unfolding any
any_same p q [] h = refl
any_same p q (x ∷ xs) h = ap₂ either (h x (Memᴰ.head refl)) (any_same p q xs (λ y m. h y (Memᴰ.tail m)))

pub all_same : {A : Type 0} (p q : A → Bool) (xs : List A) → ((x : A) → x ∈ xs → p x ≡ q x) → all p xs ≡ all q xs
unfolding all
all_same p q [] h = refl
all_same p q (x ∷ xs) h = ap₂ both (h x (Memᴰ.head refl)) (all_same p q xs (λ y m. h y (Memᴰ.tail m)))

pub among_of : (vs : List ℕ) {v : ℕ} → v ∈ vs → among vs v ≡ true
unfolding among
among_of vs {v} m = any_of (equal v) vs m (equal-yes refl)

pub among_in : (vs : List ℕ) (v : ℕ) → among vs v ≡ true → v ∈ vs
unfolding among
among_in vs v e =
    let w = any-witness (equal v) vs e in
    rw (equal-true v w.0 w.2) w.1

-- the number of a variable is below their count
pub number-below : (vs : List ℕ) (v : ℕ) → v ∈ vs → number_in vs v < length vs
unfolding number_in pick
number-below [] v m = absurd (Memᴰ.not-nil m)
number-below (u ∷ vs) v m = tried (number-below vs v) (Memᴰ.cases_cons m) (equal u v) refl
  where
    tried : (v ∈ vs → number_in vs v < length vs) → (v ≡ u) ⊎ (v ∈ vs) → (t : Bool) → equal u v ≡ t
        → pick t 0 (suc (number_in vs v)) < suc (length vs)
    tried later w true e = omega arith
    tried later (inr n) false e = let l = later n in omega arith
    tried later (inl q) false e = absurd (equal-false u v e (sym q))

-- no two variables have one number
pub number-differs : (vs : List ℕ) (u v : ℕ) → u ∈ vs → v ∈ vs → number_in vs u ≡ number_in vs v → u ≡ v
unfolding number_in pick
number-differs [] u v m n e = absurd (Memᴰ.not-nil m)
number-differs (w ∷ vs) u v m n e =
    tried (number-differs vs u v) (Memᴰ.cases_cons m) (Memᴰ.cases_cons n) (equal w u) refl (equal w v) refl e
  where
    tried : (u ∈ vs → v ∈ vs → number_in vs u ≡ number_in vs v → u ≡ v) → (u ≡ w) ⊎ (u ∈ vs) → (v ≡ w) ⊎ (v ∈ vs)
        → (s : Bool) → equal w u ≡ s → (t : Bool) → equal w v ≡ t
        → pick s 0 (suc (number_in vs u)) ≡ pick t 0 (suc (number_in vs v)) → u ≡ v
    tried later a b true p true q k = sym (equal-true w u p) ∙ equal-true w v q
    tried later a b true p false q k = absurd (omega arith)
    tried later a b false p true q k = absurd (omega arith)
    tried later (inl a) b false p false q k = absurd (equal-false w u p (sym a))
    tried later (inr a) (inl b) false p false q k = absurd (equal-false w v q (sym b))
    tried later (inr a) (inr b) false p false q k = later a b (omega arith)

-- so numbers are equal exactly when the variables are
pub number-equal : (vs : List ℕ) (u v : ℕ) → u ∈ vs → v ∈ vs → equal (number_in vs u) (number_in vs v) ≡ equal u v
number-equal vs u v m n =
    alike _ _ (λ e. equal-yes (number-differs vs u v m n (equal-true _ _ e))) (λ e. equal-yes (ap (number_in vs) (equal-true u v e)))

-- a variable has the same number after more variables are numbered
pub number-kept : (vs ws : List ℕ) (v : ℕ) → v ∈ vs → number_in (vs ++ ws) v ≡ number_in vs v
unfolding number_in pick
number-kept [] ws v m = absurd (Memᴰ.not-nil m)
number-kept (u ∷ vs) ws v m = tried (number-kept vs ws v) (Memᴰ.cases_cons m) (equal u v) refl
  where
    tried : (v ∈ vs → number_in (vs ++ ws) v ≡ number_in vs v) → (v ≡ u) ⊎ (v ∈ vs) → (t : Bool) → equal u v ≡ t
        → pick t 0 (suc (number_in (vs ++ ws) v)) ≡ pick t 0 (suc (number_in vs v))
    tried later w true e = refl
    tried later (inr n) false e = ap suc (later n)
    tried later (inl q) false e = absurd (equal-false u v e (sym q))

-- the table of numbers has the number of a numbered variable, plus 1
pub number-entry : {numbers vs : List ℕ} {count : ℕ} (v : ℕ) → Numbered numbers count vs → v ∈ vs → v < length numbers
    → get_or numbers v 0 ≡ number_in vs v + 1
unfolding tag
number-entry {vs = vs} v n m l = n.tags v l ∙ sym (pick_first 0 (among_of vs m) refl)
