-- The set gathered from the table of numbers is that of the variables that occur, where all of them are numbered and there are at most 256.
use Prim.Native.Nat.{ℕ, suc, ◌+◌, ◌≤◌, ◌<◌}
use mathlib.Core.Path.{◌≡◌, refl, sym, ◌∙◌, ap, ap₂}
use mathlib.Core.Bool.{Bool, true, false}
use mathlib.Core.Logic.{◌⊎◌, inl, inr}
use mathlib.Core.List.Memᴰ
use mathlib.Core.List.{List, [], ◌∷◌}
use native.Mathlib.Omega.{arith}
use lib.ListN.{length}
use Rattle.frames.specs.Logic.{below, equal, pick, either, both, any}
use Rattle.frames.specs.Database.{Database}
use Rattle.frames.specs.Facts.{◌∈◌}
use Rattle.frames.proofs.Chains.{pick_first, either_first, either_second, equal-yes, equal-no, equal-true, equal-false, below_true, below_false}
use Rattle.bitset.specs.Sets.{member, size}
use Rattle.bitset.proofs.Laws.{past-size}
use Rattle.machine.specs.Ground.{is_variable, among}
use Rattle.packed.specs.Pool.{is_var}
use Rattle.packed.specs.Images.{number_in, is_number, Numbers}
use Rattle.variables.specs.Numbering.{tag, Numbered}
use Rattle.engine.specs.RawSet.{numbers_as, RawGathered}

among-member : (vs : List ℕ) (v : ℕ) → v ∈ vs → true ≡ among vs v
unfolding among any
among-member [] v m = absurd (Memᴰ.not-nil m)
among-member (u ∷ vs) v m = tried (among-member vs v) (Memᴰ.cases_cons m) (equal v u) refl
  where
    tried : (v ∈ vs → true ≡ any (equal v) vs) → (v ≡ u) ⊎ (v ∈ vs) → (t : Bool) → equal v u ≡ t → true ≡ either (equal v u) (any (equal v) vs)
    tried later w true e = either_first _ e refl
    tried later (inr n) false e = either_second e (later n)
    tried later (inl q) false e = absurd (equal-false v u e q)

number-below : (vs : List ℕ) (v : ℕ) → v ∈ vs → number_in vs v < length vs
unfolding number_in pick
number-below [] v m = absurd (Memᴰ.not-nil m)
number-below (u ∷ vs) v m = tried (number-below vs v) (Memᴰ.cases_cons m) (equal u v) refl
  where
    tried : (v ∈ vs → number_in vs v < length vs) → (v ≡ u) ⊎ (v ∈ vs) → (t : Bool) → equal u v ≡ t → pick (equal u v) 0 (suc (number_in vs v)) < suc (length vs)
    tried later w true e = rw e (omega arith)
    tried later (inr n) false e = rw e (omega (arith, later n))
    tried later (inl q) false e = absurd (equal-false u v e (sym q))

-- the tag of a numbered variable, where the table holds the numbered variables
tagged : (vs : List ℕ) (v n : ℕ) → v ∈ vs → equal (tag vs v) (n + 1) ≡ equal (number_in vs v) n
unfolding tag
tagged vs v n m = tried (equal (number_in vs v) n) refl
  where
    there : pick (among vs v) (number_in vs v + 1) 0 ≡ number_in vs v + 1
    there = sym (pick_first _ (sym (among-member vs v m)) refl)

    tried : (t : Bool) → equal (number_in vs v) n ≡ t → equal (pick (among vs v) (number_in vs v + 1) 0) (n + 1) ≡ t
    tried true q = equal-yes (omega (arith, there, equal-true _ _ q))
    tried false q = equal-no (λ w. equal-false _ _ q (omega (arith, there)))

any-agrees : (p q : ℕ → Bool) (xs : List ℕ) → ((x : ℕ) → x ∈ xs → p x ≡ q x) → any p xs ≡ any q xs
unfolding any
any-agrees p q [] h = refl
any-agrees p q (x ∷ xs) h = ap₂ either (h x (Memᴰ.head refl)) (any-agrees p q xs (λ y m. h y (Memᴰ.tail m)))

any_none : (p : ℕ → Bool) (xs : List ℕ) → ((x : ℕ) → x ∈ xs → p x ≡ false) → any p xs ≡ false
unfolding any either
any_none p [] h = refl
any_none p (x ∷ xs) h = rw (h x (Memᴰ.head refl)) (any_none p xs (λ y m. h y (Memᴰ.tail m)))

module _ (db : Database) (f syms table vs : List ℕ) (count : ℕ) (held : Numbered table count vs) (xs : List ℕ)
    (known : (s : ℕ) → s ∈ xs → is_var f syms s ≡ is_variable db s)
    (inside : (s : ℕ) → s ∈ xs → is_variable db s ≡ true → s < length table)
    (numbered : (s : ℕ) → s ∈ xs → is_variable db s ≡ true → s ∈ vs)
    (few : length vs ≤ 256) where
  same_test : (n s : ℕ) → s ∈ xs → (t : Bool) → is_variable db s ≡ t → numbers_as f syms table n s ≡ is_number db vs n s
  unfolding numbers_as is_number both
  same_test n s m true e =
      rw (known s m, e) (ap (λ (k : ℕ). equal k (n + 1)) (held.tags s (inside s m e)) ∙ tagged vs s n (numbered s m e))
  same_test n s m false e = rw (known s m, e) refl

  too_large : (n s : ℕ) → 256 ≤ n → s ∈ xs → (t : Bool) → is_variable db s ≡ t → is_number db vs n s ≡ false
  unfolding is_number both
  too_large n s l m true e = rw e (equal-no (λ q. let b = number-below vs s (numbered s m e) in omega arith))
  too_large n s l m false e = rw e refl

  -- the set is that of the sequence
  pub raw-numbers : {words : List ℕ} → size words ≡ 256 → RawGathered f syms table xs words → Numbers db vs xs words
  raw-numbers {words} s g = record { exactly = λ n. told n (below n 256) refl }
    where
      told : (n : ℕ) → (t : Bool) → below n 256 ≡ t → member words n ≡ any (is_number db vs n) xs
      told n true q = g.exactly n (below_true _ _ q) ∙ any-agrees _ _ xs (λ v m. same_test n v m (is_variable db v) refl)
      told n false q =
          let past = below_false n 256 q in
          past-size words n (omega arith) ∙ sym (any_none _ xs (λ v m. too_large n v past m (is_variable db v) refl))
