-- The disjoint table: its rows as one set of 256 times 256 numbers, and what it tells of variables.
use Prim.Native.Nat.{ℕ, zero, suc, ◌+◌, ◌-◌, ◌*◌, ◌/◌, ◌%◌, ◌^◌, ◌≤◌, ◌<◌, min}
use mathlib.Core.Path.{◌≡◌, refl, sym, ap, ap₂, ◌∙◌}
use mathlib.Core.List.Memᴰ
use mathlib.Core.List.{List, [], ◌∷◌, ◌++◌}
use native.Mathlib.Omega.{arith}
use native.Mathlib.Decide.{ℕ_discrete}
use lib.ListN.{length, get_or, get_or-eq_default}
use Rattle.frames.specs.Facts.{◌∈◌}
use Rattle.bitset.specs.Sets.{bit, member, words_at}
use Rattle.bitset.proofs.Laws.{four-words}
use Rattle.machine.specs.Apply.{is_pair, disjoint}
use Rattle.machine.specs.Run.{members}
use Rattle.packed.specs.Images.{set_of, number_in}
use Rattle.disjoint.specs.Disjoint.{pair_numbers, Tabled}
use Rattle.disjoint.proofs.Numbers.{any_same, number-below, number-equal, number-kept}

row_word : (table : List ℕ) (a k : ℕ) → k < 4 → get_or (set_of table a) k 0 ≡ get_or table (4 * a + k) 0
unfolding set_of
row_word table a zero h = ap (λ (i : ℕ). get_or table i 0) (omega arith)
row_word table a (suc zero) h = refl
row_word table a (suc (suc zero)) h = refl
row_word table a (suc (suc (suc zero))) h = refl
row_word table a (suc (suc (suc (suc k)))) h = absurd (omega arith)

-- b stands in row a exactly when 256 * a + b is a member of the whole
pub row-member : (table : List ℕ) (a b : ℕ) → b < 256 → member (set_of table a) b ≡ member table (256 * a + b)
unfolding member
row-member table a b h =
    let place : 4 * a + b / 64 ≡ (256 * a + b) / 64 = omega arith in
    let spot : b % 64 ≡ (256 * a + b) % 64 = omega arith in
    ap (λ (w : ℕ). bit w (b % 64)) (row_word table a (b / 64) (omega arith) ∙ ap (λ (i : ℕ). get_or table i 0) place)
    ∙ ap (bit (get_or table ((256 * a + b) / 64) 0)) spot

-- the members of a pair are members of the pairs
pub pair_left : {q : ℕ × ℕ} {qs : List (ℕ × ℕ)} → q ∈ qs → q.0 ∈ members qs
unfolding members
pair_left (Memᴰ.head e) = Memᴰ.head (ap (λ (q : ℕ × ℕ). q.0) e)
pair_left (Memᴰ.tail m) = Memᴰ.tail (Memᴰ.tail (pair_left m))

pub pair-right : {q : ℕ × ℕ} {qs : List (ℕ × ℕ)} → q ∈ qs → q.1 ∈ members qs
unfolding members
pair-right (Memᴰ.head e) = Memᴰ.tail (Memᴰ.head (ap (λ (q : ℕ × ℕ). q.1) e))
pair-right (Memᴰ.tail m) = Memᴰ.tail (Memᴰ.tail (pair-right m))

-- the table stays that of the pairs when more variables are numbered
pub tabled-grown : {pairs : List (ℕ × ℕ)} {vs table : List ℕ} (ws : List ℕ) → ((v : ℕ) → v ∈ members pairs → v ∈ vs) → Tabled pairs vs table
    → Tabled pairs (vs ++ ws) table
unfolding pair_numbers
tabled-grown {pairs} {vs} ws known t =
    record {
      tells = λ a b h g.
          t.tells a b h g
          ∙ any_same (pair_numbers vs a b) (pair_numbers (vs ++ ws) a b) pairs
          (λ q m. ap₂ (λ (x y : ℕ). is_pair a b (x, y)) (sym (number-kept vs ws q.0 (known _ (pair_left m))))
          (sym (number-kept vs ws q.1 (known _ (pair-right m)))));
    }

-- the numbers of two variables stand in the table exactly when the variables are a disjoint pair
pub tabled-disjoint : {pairs : List (ℕ × ℕ)} {vs table : List ℕ} (u v : ℕ) → Tabled pairs vs table → ((w : ℕ) → w ∈ members pairs → w ∈ vs)
    → u ∈ vs → v ∈ vs → length vs ≤ 256 → member (set_of table (number_in vs u)) (number_in vs v) ≡ disjoint pairs u v
unfolding disjoint pair_numbers is_pair
tabled-disjoint {pairs} {vs} u v t known m n few =
    let a = number-below vs u m in
    let b = number-below vs v n in
    t.tells (number_in vs u) (number_in vs v) (omega arith) (omega arith)
    ∙ any_same (pair_numbers vs (number_in vs u) (number_in vs v)) (is_pair u v) pairs
    (λ q k. let l = known _ (pair_left k) in let r = known _ (pair-right k) in
    rw (number-equal vs u q.0 m l, number-equal vs v q.1 n r, number-equal vs u q.1 m r, number-equal vs v q.0 n l) refl)

-- a row by its four words
pub row_words : (table : List ℕ) (n : ℕ) {a b c d : ℕ} → a ≡ get_or table (4 * n + 0) 0 → b ≡ get_or table (4 * n + 1) 0 → c ≡ get_or table (4 * n + 2) 0
    → d ≡ get_or table (4 * n + 3) 0 → a ∷ b ∷ c ∷ d ∷ [] ≡ set_of table n
unfolding set_of
row_words table n ea eb ec ed = let first : 4 * n + 0 ≡ 4 * n = omega arith in cc

-- a row by the words from its place on, or from a place past the table's end where its own is past that too
place_word : (table : List ℕ) (n at k : ℕ) → at ≡ min (n * 4) (2 ^ 64 - 1) → length table < 2 ^ 64 → get_or table (at + k) 0 ≡ get_or table (4 * n + k) 0
place_word table n at k e h = told (ℕ_discrete at (4 * n))
  where
    told : Dec (at ≡ 4 * n) → get_or table (at + k) 0 ≡ get_or table (4 * n + k) 0
    told (yes is) = ap (λ (i : ℕ). get_or table (i + k) 0) is
    told (no far) = get_or-eq_default table 0 (omega arith) ∙ sym (get_or-eq_default table 0 (omega arith))

pub row_words-at : (table : List ℕ) (n at : ℕ) (words : List ℕ) → words ≡ words_at table at 4 → at ≡ min (n * 4) (2 ^ 64 - 1) → length table < 2 ^ 64 → words ≡ set_of table n
unfolding set_of
row_words-at table n at words is e h =
    let a = four-words table at in
    let b = place_word table n at 0 e h in
    let c = place_word table n at 1 e h in
    let d = place_word table n at 2 e h in
    let f = place_word table n at 3 e h in
    let none : at + 0 ≡ at = omega arith in
    let first : 4 * n + 0 ≡ 4 * n = omega arith in
    cc

-- a row that begins past the table
pub row-past : (table : List ℕ) (n at : ℕ) → length table ≤ at → at ≡ min (n * 4) (2 ^ 64 - 1) → length table < 2 ^ 64 → 0 ∷ 0 ∷ 0 ∷ 0 ∷ [] ≡ set_of table n
row-past table n at past e h =
    let a : get_or table at 0 ≡ 0 = get_or-eq_default table 0 past in
    let b : get_or table (at + 1) 0 ≡ 0 = get_or-eq_default table 0 (omega arith) in
    let c : get_or table (at + 2) 0 ≡ 0 = get_or-eq_default table 0 (omega arith) in
    let d : get_or table (at + 3) 0 ≡ 0 = get_or-eq_default table 0 (omega arith) in
    let words = four-words table at in
    let zeros : 0 ∷ 0 ∷ 0 ∷ 0 ∷ [] ≡ words_at table at 4 = cc in
    row_words-at table n at (0 ∷ 0 ∷ 0 ∷ 0 ∷ []) zeros e h
