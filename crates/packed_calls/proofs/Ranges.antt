-- The test of the images, symbol by symbol: it passes exactly where each variable has its image (`within-imaged`, `imaged-within`). And the
-- test as a loop makes it.
use Prim.Native.Nat.{ℕ, ◌+◌, ◌≤◌}
use mathlib.Core.Path.{◌≡◌, refl, sym, ◌∙◌, ap}
use mathlib.Core.Bool.{Bool, true, false}
use mathlib.Core.List.Memᴰ
use mathlib.Core.List.{List, [], ◌∷◌}
use lib.ListN.{length, get_or, drop, drop_of_length-le}
use Rattle.frames.specs.Logic.{at_most, either, both, no, all}
use Rattle.frames.specs.Layout.{symbols_at}
use Rattle.frames.specs.Facts.{◌∈◌}
use Rattle.frames.proofs.Loops.{Here}
use Rattle.frames.proofs.Chains.{either_first, either_second, both-second, no-of-true, no-of-false, at_most-yes, at_most-true}
use Rattle.frames.proofs.Tells.{true-not-false, both_true, all-member}
use Rattle.packed.specs.Pool.{is_var, Imaged}
use Rattle.packed_calls.specs.Answers.{image_within, within}

-- a constant passes
pub constant-within : (f syms froms tos : List ℕ) (used s : ℕ) → is_var f syms s ≡ false → true ≡ image_within f syms froms tos used s
unfolding image_within
constant-within f syms froms tos used s v = either_first _ (no-of-false v) refl

-- a variable passes by its two tests
variable-within : (f syms froms tos : List ℕ) (used s : ℕ) {x : Bool} → is_var f syms s ≡ true
    → x ≡ both (at_most (get_or froms s 0) (get_or tos s 0)) (at_most (get_or tos s 0) used) → x ≡ image_within f syms froms tos used s
unfolding image_within
variable-within f syms froms tos used s v e = either_second (no-of-true v) e

module _ (f syms froms tos : List ℕ) (used s : ℕ) {from to : ℕ} (v : is_var f syms s ≡ true) (a : from ≡ get_or froms s 0) (b : to ≡ get_or tos s 0) where
  pub image-within : from ≤ to → to ≤ used → true ≡ image_within f syms froms tos used s
  image-within l h =
      variable-within f syms froms tos used s v (both-second (at_most-yes (rw (← a, ← b) l)) (sym (at_most-yes (rw (← b) h))))

  -- its two tests tell
  pub image-told : both (at_most from to) (at_most to used) ≡ image_within f syms froms tos used s
  image-told = rw (a, b) (variable-within f syms froms tos used s v refl)

-- where a variable passed, both its tests hold
passed : (t u w : Bool) → either (no t) (both u w) ≡ true → t ≡ true → (u ≡ true) × (w ≡ true)
unfolding either no
passed true u w e v = both_true u w e
passed false u w e v = absurd (true-not-false v refl)

range-known : (f syms froms tos : List ℕ) (used s : ℕ) → image_within f syms froms tos used s ≡ true → is_var f syms s ≡ true
    → (get_or froms s 0 ≤ get_or tos s 0) × (get_or tos s 0 ≤ used)
unfolding image_within
range-known f syms froms tos used s e v =
    let h = passed (is_var f syms s) (at_most (get_or froms s 0) (get_or tos s 0)) (at_most (get_or tos s 0) used) e v in
    (at_most-true _ _ h.0, at_most-true _ _ h.1)

-- where the test passes, each variable has its image
pub within-imaged : (f syms : List ℕ) (at : ℕ) (froms tos : List ℕ) (used : ℕ) → within f syms at froms tos used ≡ true
    → Imaged f syms froms tos used (drop 1 (symbols_at f at))
unfolding within
within-imaged f syms at froms tos used e =
    record {
      rises = λ s m v. (range-known f syms froms tos used s (all-member (image_within f syms froms tos used) _ e m) v).0;
      within = λ s m v. (range-known f syms froms tos used s (all-member (image_within f syms froms tos used) _ e m) v).1;
    }

all-passed : (p : ℕ → Bool) (xs : List ℕ) → ((s : ℕ) → s ∈ xs → p s ≡ true) → all p xs ≡ true
unfolding all both
all-passed p [] h = refl
all-passed p (x ∷ xs) h = rw (h x (Memᴰ.head refl)) (all-passed p xs (λ s m. h s (Memᴰ.tail m)))

-- and where each has it, the test passes
pub imaged-within : (f syms : List ℕ) (at : ℕ) (froms tos : List ℕ) (used : ℕ) → Imaged f syms froms tos used (drop 1 (symbols_at f at))
    → within f syms at froms tos used ≡ true
unfolding within
imaged-within f syms at froms tos used im =
    all-passed (image_within f syms froms tos used) _ (λ s m. tried s m (is_var f syms s) refl)
  where
    tried : (s : ℕ) → s ∈ drop 1 (symbols_at f at) → (t : Bool) → is_var f syms s ≡ t → image_within f syms froms tos used s ≡ true
    tried s m false v = sym (constant-within f syms froms tos used s v)
    tried s m true v = sym (image-within f syms froms tos used s v refl refl (im.rises s m v) (im.within s m v))

-- every symbol before the i-th passed, the typecode left out: all pass exactly when the rest do
pub record PassedTo (p : ℕ → Bool) (xs : List ℕ) (i : ℕ) : Type 0 where
  pub is : all p (drop i xs) ≡ all p (drop 1 xs)

pub passed_none : (p : ℕ → Bool) (xs : List ℕ) → PassedTo p xs 1
passed_none p xs = record { is = refl }

passed-at : {p : ℕ → Bool} {xs : List ℕ} {i s : ℕ} → PassedTo p xs i → Here xs i s → both (p s) (all p (drop (i + 1) xs)) ≡ all p (drop 1 xs)
unfolding all
passed-at {p} v h = sym (ap (all p) h.is) ∙ v.is

pub passed-more : {p : ℕ → Bool} {xs : List ℕ} {i s : ℕ} → PassedTo p xs i → Here xs i s → p s ≡ true → PassedTo p xs (i + 1)
unfolding both
passed-more v h e = record { is = rw e at (passed-at v h) }

pub passed-stop : {p : ℕ → Bool} {xs : List ℕ} {i s : ℕ} → PassedTo p xs i → Here xs i s → p s ≡ false → false ≡ all p (drop 1 xs)
unfolding both
passed-stop v h e = rw e at (passed-at v h)

pub passed-done : {p : ℕ → Bool} {xs : List ℕ} {i : ℕ} → PassedTo p xs i → length xs ≤ i → true ≡ all p (drop 1 xs)
unfolding all
passed-done {p} {xs} v l = sym (ap (all p) (drop_of_length-le xs l)) ∙ v.is
