-- A buffer cleared from the front, and one that is cleared in its whole length. One law for every type of element, and what it says of zeros.
use Prim.Native.Nat.{ℕ, zero, suc, ◌+◌, ◌≤◌, ◌<◌}
use mathlib.Core.Path.{◌≡◌, refl, sym, ◌∙◌, ap}
use mathlib.Core.List.{List, [], ◌∷◌, ◌++◌, append-nil, append_assoc}
use native.Mathlib.Omega.{arith}
use lib.ListN.{length, get_or, drop, set, replicate, length-append, length-drop, length-replicate, drop_of_length-le, replicate-append-replicate}
use lib.Seq.{drop-cons, set_at}
use Rattle.clearing.specs.Cleared.{cleared}

-- one element more is cleared
pub one-more : {X : Type 0} (i : ℕ) (z : X) (xs : List X) {ys : List X} → i < length xs → ys ≡ replicate i z ++ drop i xs → set ys i z ≡ replicate (i + 1) z ++ drop (i + 1) xs
one-more {X} i z xs inside is =
    let front : ◌++◌ {A = X} (replicate i z) (z ∷ []) ≡ replicate (i + 1) z = replicate-append-replicate i 1 z in
    let next : suc i ≡ i + 1 = omega arith in
    ap (λ (l : List X). set l i z) (is ∙ ap (λ (l : List X). replicate i z ++ l) (drop-cons xs i z inside))
    ∙ set_at (replicate i z) (get_or xs i z) (drop (suc i) xs) z i (length-replicate i z)
    ∙ sym (append_assoc (replicate i z) (z ∷ []) (drop (suc i) xs))
    ∙ cc

-- the same, stored at a place that is the i-th
pub one-more-at : {X : Type 0} (i k : ℕ) (z : X) (xs : List X) {ys : List X} → i < length xs → ys ≡ replicate i z ++ drop i xs → k ≡ i
    → set ys k z ≡ replicate (i + 1) z ++ drop (i + 1) xs
one-more-at {X} i k z xs {ys} inside is e = ap (λ (j : ℕ). set ys j z) e ∙ one-more i z xs inside is

-- after i elements it has i zeros and then what stood there
pub record Cleared (xs : List ℕ) (i : ℕ) (ys : List ℕ) : Type 0 where
  pub few : i ≤ length xs
  pub is : ys ≡ replicate i 0 ++ drop i xs

pub cleared-none : (xs : List ℕ) → Cleared xs 0 xs
cleared-none xs = record { few = omega arith; is = refl }

module _ {xs : List ℕ} {i : ℕ} {ys : List ℕ} (c : Cleared xs i ys) where
  pub cleared-length : length ys ≡ length xs
  cleared-length =
      let few = c.few in
      ap length c.is ∙ omega (arith, length-append (replicate i 0) (drop i xs), length-replicate {0} {A = ℕ} i 0, length-drop i xs)

  pub cleared_more : i < length ys → Cleared xs (i + 1) (set ys i 0)
  cleared_more inside =
      let l : i < length xs = omega (arith, cleared-length) in
      record { few = omega arith; is = one-more i 0 xs l c.is }

  pub cleared-all : length ys ≤ i → ys ≡ cleared xs
  cleared-all past =
      let few = c.few in
      let whole : i ≡ length xs = omega (arith, cleared-length) in
      let l : length xs ≤ i = omega arith in
      c.is ∙ ap (λ (l : List ℕ). replicate i 0 ++ l) (drop_of_length-le xs l) ∙ append-nil (replicate i 0) ∙ ap (λ (n : ℕ). replicate n 0) whole

-- each element of a cleared buffer is 0
pub cleared-zeros : (xs : List ℕ) {ys : List ℕ} → ys ≡ cleared xs → (i : ℕ) → get_or ys i 0 ≡ 0
cleared-zeros xs e i = ap (λ (l : List ℕ). get_or l i 0) e ∙ zeros (length xs) i
  where
    zeros : (k j : ℕ) → ◌≡◌ {A = ℕ} (get_or (replicate k 0) j 0) 0
    zeros zero j = refl
    zeros (suc k) zero = refl
    zeros (suc k) (suc j) = zeros k j
