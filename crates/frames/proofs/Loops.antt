-- Laws for the loops that go through a list and stop at the first member that settles the answer. An invariant is a record:
-- the answer for what is left of the list is the answer for the whole. `Here` says which member the loop stands at.
use Prim.Native.Nat.{ℕ, zero, suc, ◌+◌, ◌*◌, ◌≤◌, ◌<◌}
use mathlib.Core.Path.{◌≡◌, refl, sym, ap, ap₂, ◌∙◌}
use mathlib.Core.Bool.{Bool, true, false}
use mathlib.Core.List.{List, [], ◌∷◌}
use native.Mathlib.Numerals.{add-one}
use native.Mathlib.Nat.{mul-zero, add-zero, mul-suc}
use native.Mathlib.Omega.{arith}
use lib.ListN.{length, drop, get_or, drop_of_length-le, get_or-eq_default}
use lib.Seq.{drop-cons, get_or-drop}
use Rattle.frames.specs.Logic.{equal, both, either, all, any, rising_from, at_most, rows, same}

-- the list goes on with `x` at `i`
pub record Here {A : Type 0} (xs : List A) (i : ℕ) (x : A) : Type 0 where
  pub is : drop i xs ≡ x ∷ drop (i + 1) xs

pub here-list : {A : Type 0} (xs : List A) (i : ℕ) (d : A) → i < length xs → Here xs i (get_or xs i d)
here-list xs i d h = record { is = rw (add-one, drop-cons xs i d) }

pub length-rows : {A : Type 0} (read : ℕ → A) (step n from : ℕ) → length (rows read step n from) ≡ n
unfolding rows
length-rows read step zero from = refl
length-rows read step (suc n) from = ap suc (length-rows read step n (from + step))

drop-rows : {A : Type 0} (read : ℕ → A) (step n from i : ℕ) → i < n
    → drop i (rows read step n from) ≡ read (from + step * i) ∷ drop (suc i) (rows read step n from)
unfolding rows
drop-rows read step zero from i h = absurd (omega arith)
drop-rows read step (suc n) from zero h = rw (mul-zero, add-zero) refl
drop-rows read step (suc n) from (suc i) h =
    let e : from + step + step * i ≡ from + step * suc i = rw (mul-suc step i) (omega arith) in
    let l : i < n = omega arith in
    rw (← e) (drop-rows read step n (from + step) i l)

pub here-rows : {A : Type 0} (read : ℕ → A) (step n from i : ℕ) → i < n → Here (rows read step n from) i (read (from + step * i))
here-rows read step n from i h = record { is = rw add-one (drop-rows read step n from i h) }

-- every member so far passed
pub record AllSoFar {A : Type 0} (p : A → Bool) (xs : List A) (i : ℕ) : Type 0 where
  pub is : all p (drop i xs) ≡ all p xs

pub all_none : {A : Type 0} (p : A → Bool) (xs : List A) → AllSoFar p xs 0
all_none p xs = record { is = refl }

all-at : {A : Type 0} {p : A → Bool} {xs : List A} {i : ℕ} {x : A} → AllSoFar p xs i → Here xs i x
    → both (p x) (all p (drop (i + 1) xs)) ≡ all p xs
unfolding all
all-at {p = p} s h = sym (ap (all p) h.is) ∙ s.is

pub all_more : {A : Type 0} {p : A → Bool} {xs : List A} {i : ℕ} {x : A} → AllSoFar p xs i → Here xs i x → p x ≡ true
    → AllSoFar p xs (i + 1)
unfolding both
all_more s h e = record { is = rw e at (all-at s h) }

pub all-stop : {A : Type 0} {p : A → Bool} {xs : List A} {i : ℕ} {x : A} → AllSoFar p xs i → Here xs i x → p x ≡ false
    → false ≡ all p xs
unfolding both
all-stop s h e = rw e at (all-at s h)

pub all_done : {A : Type 0} {p : A → Bool} {xs : List A} {i : ℕ} → AllSoFar p xs i → length xs ≤ i → true ≡ all p xs
unfolding all
all_done {p = p} {xs} s h = sym (ap (all p) (drop_of_length-le xs h)) ∙ s.is

-- no member so far passed
pub record AnySoFar {A : Type 0} (p : A → Bool) (xs : List A) (i : ℕ) : Type 0 where
  pub is : any p (drop i xs) ≡ any p xs

pub any_none : {A : Type 0} (p : A → Bool) (xs : List A) → AnySoFar p xs 0
any_none p xs = record { is = refl }

any_at : {A : Type 0} {p : A → Bool} {xs : List A} {i : ℕ} {x : A} → AnySoFar p xs i → Here xs i x
    → either (p x) (any p (drop (i + 1) xs)) ≡ any p xs
unfolding any
any_at {p = p} s h = sym (ap (any p) h.is) ∙ s.is

pub any-more : {A : Type 0} {p : A → Bool} {xs : List A} {i : ℕ} {x : A} → AnySoFar p xs i → Here xs i x → p x ≡ false
    → AnySoFar p xs (i + 1)
unfolding either
any-more s h e = record { is = rw e at (any_at s h) }

pub any-stop : {A : Type 0} {p : A → Bool} {xs : List A} {i : ℕ} {x : A} → AnySoFar p xs i → Here xs i x → p x ≡ true
    → true ≡ any p xs
unfolding either
any-stop s h e = rw e at (any_at s h)

pub any-done : {A : Type 0} {p : A → Bool} {xs : List A} {i : ℕ} → AnySoFar p xs i → length xs ≤ i → false ≡ any p xs
unfolding any
any-done {p = p} {xs} s h = sym (ap (any p) (drop_of_length-le xs h)) ∙ s.is

-- the numbers so far rose; the next one is to be at least `low`
pub record RisingSoFar (xs : List ℕ) (low i : ℕ) : Type 0 where
  pub is : rising_from low (drop i xs) ≡ rising_from 0 xs

pub rising_none : (xs : List ℕ) → RisingSoFar xs 0 0
rising_none xs = record { is = refl }

rising-at : {xs : List ℕ} {low i x : ℕ} → RisingSoFar xs low i → Here xs i x
    → both (at_most low x) (rising_from (suc x) (drop (i + 1) xs)) ≡ rising_from 0 xs
unfolding rising_from
rising-at {low = low} s h = sym (ap (rising_from low) h.is) ∙ s.is

pub rising-more : {xs : List ℕ} {low i x : ℕ} → RisingSoFar xs low i → Here xs i x → at_most low x ≡ true
    → RisingSoFar xs (x + 1) (i + 1)
unfolding both
rising-more {x = x} s h e = record { is = rw (add-one x) (rw e at (rising-at s h)) }

pub rising-stop : {xs : List ℕ} {low i x : ℕ} → RisingSoFar xs low i → Here xs i x → at_most low x ≡ false
    → false ≡ rising_from 0 xs
unfolding both
rising-stop s h e = rw e at (rising-at s h)

pub rising-done : {xs : List ℕ} {low i : ℕ} → RisingSoFar xs low i → length xs ≤ i → true ≡ rising_from 0 xs
unfolding rising_from
rising-done {xs} {low} s h = sym (ap (rising_from low) (drop_of_length-le xs h)) ∙ s.is

-- what stands at an index of a list that goes on there
pub here-get_or : {A : Type 0} {xs : List A} {i : ℕ} {x : A} → Here xs i x → (d : A) → x ≡ get_or xs i d
here-get_or {xs = xs} {i} h d =
    let e : i + 0 ≡ i = omega arith in
    sym (ap (λ l. get_or l 0 d) h.is) ∙ get_or-drop i xs 0 d ∙ ap (λ k. get_or xs k d) e

-- past the end stands the default
pub get_or_past : {A : Type 0} (xs : List A) (i : ℕ) (d : A) → length xs ≤ i → d ≡ get_or xs i d
get_or_past xs i d h = sym (get_or-eq_default xs d h)

pub rows-past : {A : Type 0} (read : ℕ → A) (step n from i : ℕ) (d : A) → n ≤ i → d ≡ get_or (rows read step n from) i d
rows-past read step n from i d h =
    get_or_past (rows read step n from) i d (omega (arith, length-rows read step n from))

-- two lists agree so far
pub record SameSoFar (xs ys : List ℕ) (i : ℕ) : Type 0 where
  pub is : same (drop i xs) (drop i ys) ≡ same xs ys

pub same_none : (xs ys : List ℕ) → SameSoFar xs ys 0
same_none xs ys = record { is = refl }

same_at : {xs ys : List ℕ} {i x y : ℕ} → SameSoFar xs ys i → Here xs i x → Here ys i y
    → both (equal x y) (same (drop (i + 1) xs) (drop (i + 1) ys)) ≡ same xs ys
unfolding same
same_at s h k = sym (ap₂ same h.is k.is) ∙ s.is

pub same_more : {xs ys : List ℕ} {i x y : ℕ} → SameSoFar xs ys i → Here xs i x → Here ys i y → equal x y ≡ true
    → SameSoFar xs ys (i + 1)
unfolding both
same_more s h k e = record { is = rw e at (same_at s h k) }

pub same_stop : {xs ys : List ℕ} {i x y : ℕ} → SameSoFar xs ys i → Here xs i x → Here ys i y → equal x y ≡ false
    → false ≡ same xs ys
unfolding both
same_stop s h k e = rw e at (same_at s h k)

pub same-done : {xs ys : List ℕ} {i : ℕ} → SameSoFar xs ys i → length xs ≤ i → length ys ≤ i → true ≡ same xs ys
unfolding same
same-done {xs} {ys} s h k = sym (ap₂ same (drop_of_length-le xs h) (drop_of_length-le ys k)) ∙ s.is

-- lists of different lengths are not the same
differ-more : (t u : Bool) → false ≡ u → false ≡ both t u
unfolding both
differ-more true u h = h
differ-more false u h = refl

pub same-lengths : (xs ys : List ℕ) → (length xs ≡ length ys → ⊥) → false ≡ same xs ys
unfolding same
same-lengths [] [] h = absurd (h refl)
same-lengths [] (y ∷ ys) h = refl
same-lengths (x ∷ xs) [] h = refl
same-lengths (x ∷ xs) (y ∷ ys) h = differ-more (equal x y) (same xs ys) (same-lengths xs ys (λ e. h (ap suc e)))
