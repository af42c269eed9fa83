-- The fewest digits of a number, as `io` spells them, are the decimal text of the definition. By induction on the digits:
-- one digit is a number below 10, and of more the last is the remainder by 10.
use Prim.Native.Nat.{ℕ, zero, suc, ◌+◌, ◌-◌, ◌/◌, ◌%◌, ◌^◌, ◌≤◌, ◌<◌}
use mathlib.Core.Path.{◌≡◌, refl}
use mathlib.Core.Bool.{Bool, true, false}
use native.Mathlib.Nat.{pow-le-pow_right, pow-suc, div-add-mod', mod-lt, mod-eq_of_lt}
use native.Mathlib.Omega.{arith}
use borrow.Author.Tests.{lt-ltb, le-ltb, ltb-true, ltb-false}
use lib.Dec.{ltb}
use Rattle.io.specs.Digits.{hex_digit_ascii, last_digits, IsDigitCount}
use Rattle.verdict_text.specs.Text.{digits_of}

-- the powers of 10 rise
powers : (i j : ℕ) → i ≤ j → 10 ^ i ≤ 10 ^ j
powers i j h = pow-le-pow_right {n = 10} (omega arith) h

-- a digit below 10 has the code of 0 and itself more
digit : (d : ℕ) → d < 10 → hex_digit_ascii d ≡ 48 + d
digit d h = rw (lt-ltb d 10 h)

-- one digit
one-digit : (fuel n : ℕ) → n < 10 → last_digits 10 1 n ≡ digits_of (suc fuel) n
unfolding digits_of
one-digit fuel n h = rw (lt-ltb n 10 h, mod-eq_of_lt h, digit n h)

-- one digit more
more-digits : (fuel k n : ℕ) → 10 ≤ n → last_digits 10 k (n / 10) ≡ digits_of fuel (n / 10) → last_digits 10 (suc k) n ≡ digits_of (suc fuel) n
unfolding digits_of
more-digits fuel k n h rest = rw (le-ltb n 10 h, digit (n % 10) (mod-lt n (omega arith)), rest)

-- without its last digit
fewer : (k n : ℕ) → n < 10 ^ suc (suc k) → 10 ^ suc k ≤ n → IsDigitCount 10 1 (n / 10) (suc k)
fewer k n high low =
    let pred : suc k - 1 ≡ k = omega arith in
    let last : n % 10 < 10 = mod-lt n (omega arith) in (
      omega arith,
      omega (arith, pow-suc 10 (suc k), div-add-mod' n 10),
      λ h. rw pred (omega (arith, pow-suc 10 k, div-add-mod' n 10)),
    )

pub decimal-digits : (fuel k n : ℕ) → IsDigitCount 10 1 n k → k ≤ fuel → last_digits 10 k n ≡ digits_of fuel n
decimal-digits fuel zero n few h = absurd (omega arith)
decimal-digits zero (suc k) n few h = absurd (omega arith)
decimal-digits (suc fuel) (suc zero) n few h = one-digit fuel n (omega arith)
decimal-digits (suc fuel) (suc (suc k)) n few h =
    let pred : suc (suc k) - 1 ≡ suc k = omega arith in
    let low : 10 ^ suc k ≤ n = rw pred at (few.2 (omega arith)) in
    more-digits fuel (suc k) n (omega (arith, pow-suc 10 k, powers 0 k (omega arith)))
    (decimal-digits fuel (suc k) (n / 10) (fewer k n few.1 low) (omega arith))

-- a number of the machine has at most 20 digits
at_most : (k n : ℕ) (b : Bool) → ltb 20 k ≡ b → IsDigitCount 10 1 n k → n < 18446744073709551616 → k ≤ 20
at_most k n false e few h = ltb-false 20 k e
at_most k n true e few h =
    let long : 20 < k = ltb-true 20 k e in
    let low : 10 ^ (k - 1) ≤ n = few.2 (omega arith) in
    absurd (omega (arith, powers 20 (k - 1) (omega arith)))

pub few-digits : (k n : ℕ) → IsDigitCount 10 1 n k → n < 18446744073709551616 → k ≤ 20
few-digits k n few h = at_most k n (ltb 20 k) refl few h
