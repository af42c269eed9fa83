-- A word shifted down to a number's own bit says which members lie ahead in that word: none where it is zero, and else its lowest bit
-- says the next one. So an iteration passes over a whole word at a time.
use mathlib.Core.Path.{◌≡◌, sym, ap, ap₂, ◌∙◌}
use mathlib.Core.Bool.{true, false}
use mathlib.Core.List.{List, ◌∷◌}
use Prim.Native.Nat.{ℕ, zero, suc, ◌+◌, ◌-◌, ◌*◌, ◌/◌, ◌%◌, ◌^◌, ◌≤◌, ◌<◌}
use native.Mathlib.Nat.{add-zero, lt_of_le_of_lt}
use native.Mathlib.Omega.{arith}
use native.Mathlib.Decide.{dec_lt}
use lib.Count.{count_trailing_zeros}
use lib.ListN.{get_or}
use lib.Pow.{shr_le}
use Rattle.bitset.specs.Sets.{bit, member, size, Words, members_from}
use Rattle.bitset.proofs.Bits.{zero_bit, shifted-bit, past-bits, below-lowest, lowest-bit}
use Rattle.bitset.proofs.Laws.{member_below}
use Rattle.bitset.proofs.Listed.{from_member, from-other}

-- the word of n, shifted down to the bit of n
unfoldable pub ahead : List ℕ → ℕ → ℕ
ahead ws n = get_or ws (n / 64) 0 / 2 ^ (n % 64)

-- its bits are the members from n on, to the word's end
ahead-bit : (ws : List ℕ) (n j : ℕ) → n % 64 + j < 64 → member ws (n + j) ≡ bit (ahead ws n) j
unfolding member ahead
ahead-bit ws n j h =
    let d : (n + j) / 64 ≡ n / 64 = omega arith in
    let m : (n + j) % 64 ≡ n % 64 + j = omega arith in
    ap₂ (λ (x y : ℕ). bit (get_or ws x 0) y) d m ∙ sym (shifted-bit (get_or ws (n / 64) 0) (n % 64) j)

-- numbers that are no members are passed over
passed : (ws : List ℕ) (d n : ℕ) → n + d ≤ size ws → ((j : ℕ) → j < d → member ws (n + j) ≡ false)
    → members_from ws (size ws - n) n ≡ members_from ws (size ws - (n + d)) (n + d)
passed ws zero n h f = ap (λ (m : ℕ). members_from ws (size ws - m) m) (sym (add-zero n))
passed ws (suc d) n h f =
    from-other ws n (omega arith) (ap (member ws) (sym (add-zero n)) ∙ f 0 (omega arith))
    ∙ passed ws d (n + 1) (omega arith) (λ j l. let e : n + 1 + j ≡ n + suc j = omega arith in ap (member ws) e ∙ f (suc j) (omega arith))
    ∙ (let e : n + 1 + d ≡ n + suc d = omega arith in ap (λ (m : ℕ). members_from ws (size ws - m) m) e)

-- where nothing lies ahead the next word is next
pub ahead_none : (ws : List ℕ) (n : ℕ) → n < size ws → ahead ws n ≡ 0
    → members_from ws (size ws - n) n ≡ members_from ws (size ws - 64 * (n / 64 + 1)) (64 * (n / 64 + 1))
unfolding size
ahead_none ws n h e =
    passed ws (64 - n % 64) n (omega arith) (λ j l. ahead-bit ws n j (omega arith) ∙ ap (λ (w : ℕ). bit w j) e ∙ zero_bit j)
    ∙ (let q : n + (64 - n % 64) ≡ 64 * (n / 64 + 1) = omega arith in ap (λ (m : ℕ). members_from ws (size ws - m) m) q)

-- the next member
unfoldable pub coming : List ℕ → ℕ → ℕ
coming ws n = n + count_trailing_zeros 64 (ahead ws n)

-- the lowest bit of what lies ahead is in the word
ahead_within : {bits : ℕ} {ws : List ℕ} (n : ℕ) → Words bits ws → bit (ahead ws n) (count_trailing_zeros 64 (ahead ws n)) ≡ true
    → n % 64 + count_trailing_zeros 64 (ahead ws n) < 64
unfolding ahead
ahead_within {ws = ws} n w b = go (dec_lt (n % 64 + count_trailing_zeros 64 (ahead ws n)) 64)
  where
    go : Dec (n % 64 + count_trailing_zeros 64 (ahead ws n) < 64) → n % 64 + count_trailing_zeros 64 (ahead ws n) < 64
    go (yes h) = h
    go (no g) =
        let c = shifted-bit (get_or ws (n / 64) 0) (n % 64) (count_trailing_zeros 64 (ahead ws n)) in
        let d = past-bits 64 (get_or ws (n / 64) 0) (n % 64 + count_trailing_zeros 64 (ahead ws n)) (w.small (n / 64)) (omega arith) in
        let z : ◌≡◌ {A = ℕ} 0 1 = cc in
        omega arith

-- what lies ahead is a word
ahead-small : {bits : ℕ} {ws : List ℕ} (n : ℕ) → Words bits ws → ahead ws n < 2 ^ 64
unfolding ahead
ahead-small {ws = ws} n w = lt_of_le_of_lt (shr_le (get_or ws (n / 64) 0) (n % 64)) (w.small (n / 64))

-- where something lies ahead it has a lowest bit
ahead-lowest : {bits : ℕ} {ws : List ℕ} (n : ℕ) → Words bits ws → (ahead ws n ≡ 0 → ⊥) → bit (ahead ws n) (count_trailing_zeros 64 (ahead ws n)) ≡ true
ahead-lowest {ws = ws} n w f = lowest-bit 64 (ahead ws n) (omega arith) (ahead-small n w)

-- where something lies ahead, its lowest bit says a member
pub coming-member : {bits : ℕ} {ws : List ℕ} (n : ℕ) → Words bits ws → (ahead ws n ≡ 0 → ⊥) → member ws (coming ws n) ≡ true
unfolding coming
coming-member {ws = ws} n w f =
    let b = ahead-lowest n w f in
    ahead-bit ws n (count_trailing_zeros 64 (ahead ws n)) (ahead_within n w b) ∙ b

-- and that is the next one
pub ahead-some : {bits : ℕ} {ws : List ℕ} (n : ℕ) → Words bits ws → (ahead ws n ≡ 0 → ⊥)
    → members_from ws (size ws - n) n ≡ coming ws n ∷ members_from ws (size ws - (coming ws n + 1)) (coming ws n + 1)
unfolding coming
ahead-some {ws = ws} n w f =
    let m = coming-member n w f in
    let l = member_below ws (coming ws n) m in
    let t = ahead_within n w (ahead-lowest n w f) in
    passed ws (count_trailing_zeros 64 (ahead ws n)) n (omega arith)
    (λ j h. ahead-bit ws n j (omega arith) ∙ below-lowest 64 (ahead ws n) j h)
    ∙ from_member ws (coming ws n) l m
