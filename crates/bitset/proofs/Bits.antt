-- The bits of one word: those of zero, of a power of two, of `bit_or` and of a shift, the lowest that is set, and that the bits settle
-- the word, each for a word of any width. `bit` tells whether std's `bit_at` is 1, so what std knows of `bit_at` is said of `bit`.
use mathlib.Core.Path.{◌≡◌, refl, sym, ap, ◌∙◌}
use mathlib.Core.Bool.{true, false, ◌||◌}
use Prim.Native.Nat.{ℕ, zero, suc, ◌+◌, ◌*◌, ◌/◌, ◌%◌, ◌^◌, ◌≤◌, ◌<◌, max}
use native.Mathlib.Nat.{div-one, pow-suc}
use native.Mathlib.Numerals.{one-add}
use native.Mathlib.Omega.{arith}
use native.Mathlib.Decide.{ℕ_discrete}
use lib.Dec.{eqb}
use lib.Bits.{bit_or}
use lib.Pow.{shr-shr}
use lib.Count.{count_trailing_zeros, under}
use borrow.Author.Tests.{eq-eqb, ne_eqb}
use Rattle.std.proofs.lemmas.Nat.Bits.{bit_at-zero, bit_at-pow_same, bit_at-pow_other, bit_at_or, same_from_bits_below, bit_at_above}
use Rattle.bitset.specs.Sets.{bit}

-- zero has no bit
pub zero_bit : (k : ℕ) → bit 0 k ≡ false
unfolding bit
zero_bit k = ap (λ (x : ℕ). eqb x 1) (bit_at-zero k)

-- the first bit is the last binary digit
pub first_bit : (w : ℕ) → bit w 0 ≡ eqb (w % 2) 1
unfolding bit
first_bit w = ap (λ (x : ℕ). eqb (x % 2) 1) (div-one w)

-- a later bit is a bit of the half
pub later-bit : (w k : ℕ) → bit w (suc k) ≡ bit (w / 2) k
unfolding bit
later-bit w k = ap (λ (x : ℕ). eqb (x % 2) 1) (ap (λ (j : ℕ). w / 2 ^ j) (sym (one-add k)) ∙ sym (shr-shr w 1 k))

-- a power of two has one bit
pub power-bit : (j k : ℕ) → bit (2 ^ j) k ≡ eqb j k
unfolding bit
power-bit j k = go (ℕ_discrete k j)
  where
    go : Dec (k ≡ j) → eqb (2 ^ j / 2 ^ k % 2) 1 ≡ eqb j k
    go (yes e) = ap (λ (x : ℕ). eqb (2 ^ j / 2 ^ x % 2) 1) e ∙ ap (λ (x : ℕ). eqb x 1) (bit_at-pow_same j) ∙ sym (eq-eqb j k (sym e))
    go (no f) = ap (λ (x : ℕ). eqb x 1) (bit_at-pow_other j k f) ∙ sym (ne_eqb j k (λ e. f (sym e)))

-- the greater of two binary digits is 1 where one of them is
greater-digit : (d e : ℕ) → d < 2 → e < 2 → eqb (max d e) 1 ≡ (eqb d 1 || eqb e 1)
greater-digit zero zero hd he = refl
greater-digit zero (suc zero) hd he = refl
greater-digit (suc zero) zero hd he = refl
greater-digit (suc zero) (suc zero) hd he = refl
greater-digit zero (suc (suc e)) hd he = absurd (omega arith)
greater-digit (suc zero) (suc (suc e)) hd he = absurd (omega arith)
greater-digit (suc (suc d)) e hd he = absurd (omega arith)

-- `bit_or` has the bits of both
pub or-bit : (a b k : ℕ) → bit (bit_or a b) k ≡ (bit a k || bit b k)
unfolding bit
or-bit a b k = ap (λ (x : ℕ). eqb x 1) (bit_at_or a b k) ∙ greater-digit (a / 2 ^ k % 2) (b / 2 ^ k % 2) (omega arith) (omega arith)

-- two binary digits that are 1 together are equal
same-digit : (d e : ℕ) → d < 2 → e < 2 → eqb d 1 ≡ eqb e 1 → d ≡ e
same-digit zero zero hd he q = refl
same-digit zero (suc zero) hd he q = let z : ◌≡◌ {A = ℕ} 0 1 = cc in omega arith
same-digit (suc zero) zero hd he q = let z : ◌≡◌ {A = ℕ} 0 1 = cc in omega arith
same-digit (suc zero) (suc zero) hd he q = refl
same-digit zero (suc (suc e)) hd he q = absurd (omega arith)
same-digit (suc zero) (suc (suc e)) hd he q = absurd (omega arith)
same-digit (suc (suc d)) e hd he q = absurd (omega arith)

-- words of k bits with the same bits are equal
pub same_bits : (k a b : ℕ) → a < 2 ^ k → b < 2 ^ k → ((j : ℕ) → j < k → bit a j ≡ bit b j) → a ≡ b
unfolding bit
same_bits k a b ha hb q =
    same_from_bits_below k a b ha hb (λ j l. same-digit (a / 2 ^ j % 2) (b / 2 ^ j % 2) (omega arith) (omega arith) (q j l))

-- the bits of a word shifted down
pub shifted-bit : (a k j : ℕ) → bit (a / 2 ^ k) j ≡ bit a (k + j)
unfolding bit
shifted-bit a k j = ap (λ (x : ℕ). eqb (x % 2) 1) (shr-shr a k j)

-- a word of k bits has no bit past them
pub past-bits : (k a j : ℕ) → a < 2 ^ k → k ≤ j → bit a j ≡ false
unfolding bit
past-bits k a j h l = ap (λ (x : ℕ). eqb x 1) (bit_at_above a k j h l)

-- the bits below the lowest that is set, a digit at a time
under-clear : (d t a j : ℕ) → a % 2 ≡ d → ((i : ℕ) → i < t → bit (a / 2) i ≡ false) → j < under d t → bit a j ≡ false
under-clear zero t a zero e f h = first_bit a ∙ ap (λ (x : ℕ). eqb x 1) e
under-clear zero t a (suc j) e f h = later-bit a j ∙ f j (omega arith)
under-clear (suc d) t a j e f h = absurd (omega arith)

-- no bit below the lowest that is set
pub below-lowest : (k a j : ℕ) → j < count_trailing_zeros k a → bit a j ≡ false
unfolding count_trailing_zeros
below-lowest zero a j h = absurd (omega arith)
below-lowest (suc k) a j h = under-clear (a % 2) (count_trailing_zeros k (a / 2)) a j refl (below-lowest k (a / 2)) h

-- the lowest bit that is set, a digit at a time
under-set : (d t a : ℕ) → a % 2 ≡ d → (d ≡ 0 → bit (a / 2) t ≡ true) → bit a (under d t) ≡ true
under-set zero t a e f = later-bit a t ∙ f refl
under-set (suc d) t a e f = first_bit a ∙ eq-eqb (a % 2) 1 (omega arith)

-- a word that is not zero has a lowest bit
pub lowest-bit : (k a : ℕ) → 0 < a → a < 2 ^ k → bit a (count_trailing_zeros k a) ≡ true
unfolding count_trailing_zeros
lowest-bit zero a p h = absurd (omega arith)
lowest-bit (suc k) a p h =
    let l : a < 2 ^ k * 2 = rw (pow-suc 2 k) at h in
    under-set (a % 2) (count_trailing_zeros k (a / 2)) a refl (λ e. lowest-bit k (a / 2) (omega arith) (omega arith))
