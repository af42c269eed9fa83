-- Every answer of the two calls fits into one number, and no two outcomes keep what they promise.
use Rattle.std.proofs.Common.{Ok, Err}
use Prim.Native.Nat.{ℕ, zero, suc, ◌+◌, ◌≤◌, ◌<◌}
use mathlib.Core.Path.{◌≡◌, refl, sym, ◌∙◌, ap}
use mathlib.Core.Bool.{Bool, true, false}
use mathlib.Core.List.{List}
use native.Mathlib.Omega.{arith}
use lib.ListN.{length}
use Rattle.bitset.specs.Sets.{keep}
use Rattle.frames.specs.Logic.{equal}
use Rattle.frames.specs.Verdict.{number_of, verdict, Verdict, Good, Refused}
use Rattle.frames.specs.Database.{Database, database}
use Rattle.frames.specs.Facts.{statement_of}
use Rattle.frames.specs.declared.Refusal.{Refusal}
use Rattle.facts.proofs.GoodFacts.{good-facts}
use Rattle.facts.proofs.Unique.{good-answer}
use Rattle.facts.proofs.Kept.{refused-parts}
use Rattle.machine.proofs.Numbers.{file-number}
use Rattle.answers.specs.Packed.{packed_answer}
use Rattle.told.specs.declared.Told.{Told}
use Rattle.told.specs.Says.{Says}
use Rattle.bench.specs.Calls.{room_in, Verified}
use Rattle.bench.proofs.Small.{answer-small, refused-place}
use Rattle.walk.specs.Walk.{Walked, provable_from, provable, word_of, answer_word, walked_of, WalksAll}
use Rattle.bench_c.specs.Words.{VerifiedWord, walked_word, AllWords}

module _ {f : List ℕ} {p : ℕ} {pool stack places pool' stack' places' : List ℕ} {t : Told}
    (v : Verified f p pool stack places pool' stack' places' t) where
  pub told-small : (t.number < 256) × ((t.place < 16777216) × (t.steps < 4294967296))
  told-small =
      let s = answer-small f p (room_in pool stack places) in
      (rw v.says.number s.number_small, (rw v.says.place s.place_small, rw v.says.steps s.steps_small))

  pub verified-word : {word : ℕ} → word ≡ packed_answer t.number t.place t.steps
      → VerifiedWord f p pool stack places pool' stack' places' word
  unfolding answer_word word_of
  verified-word is = record { answers = is ∙ rw (v.says.number, v.says.place, v.says.steps) refl; zeroed = v.zeroed }

-- at most as many $p as statements
keep-few : (t : Bool) (n k : ℕ) (xs : List ℕ) → length xs ≤ k → length (keep t n xs) ≤ suc k
unfolding keep
keep-few true n k xs h = omega arith
keep-few false n k xs h = omega arith

provable-few : (db : Database) (k n : ℕ) → length (provable_from db k n) ≤ k
unfolding provable_from
provable-few db zero n = omega arith
provable-few db (suc k) n = keep-few (equal (statement_of db n).kind 5) n k (provable_from db k (n + 1)) (provable-few db k (n + 1))

module _ (f : List ℕ) where
  all-few : {n k : ℕ} → verdict f ≡ Good n k → length (provable (database f)) ≤ 4096
  unfolding provable
  all-few {n} {k} e =
      let few = (good-facts f (good-answer f n k e).0).statement_count in
      let p = provable-few (database f) (length (database f).statements) 0 in
      omega arith

  -- what the walk answers is small
  count_small : (v : Verdict) {count : ℕ} → verdict f ≡ v → Ok count ≡ walked_of v (database f) → count < 4294967296
  unfolding walked_of
  count_small (Ok sizes) {count} e is =
      let few = all-few e in
      let same : count ≡ length (provable (database f)) = cc in
      omega arith
  count_small (Err away) e is = let z : ◌≡◌ {A = ℕ} 0 1 = cc in absurd (omega arith)

  place_small : (v : Verdict) {why : Refusal} {at : ℕ} → verdict f ≡ v → Refused why at ≡ walked_of v (database f) → at ≤ 1048576
  unfolding walked_of
  place_small (Ok sizes) e is = let z : ◌≡◌ {A = ℕ} 0 1 = cc in absurd (omega arith)
  place_small (Err away) {why} {at} e is =
      let small = refused-place f away.why away.place e in
      let same : at ≡ away.place = (refused-parts is).1 in
      omega arith

module _ {f pool stack places answers pool' stack' places' answers' : List ℕ} {walked : Walked}
    (w : WalksAll f pool stack places answers pool' stack' places' answers' walked) where
  pub refusal-small : {why : Refusal} {at n : ℕ} → walked ≡ Refused why at → n ≡ number_of why
      → (n < 256) × ((at < 16777216) × (0 < 4294967296))
  refusal-small {why} {at} {n} is e =
      let r = file-number why in
      let s = place_small f (verdict f) refl (sym is ∙ w.answered.counts) in
      (omega (arith, r.1), (omega arith, omega arith))

  pub answered-small : {count : ℕ} → walked ≡ Ok count → (0 < 256) × ((0 < 16777216) × (count < 4294967296))
  answered-small is = (omega arith, (omega arith, count_small f (verdict f) refl (sym is ∙ w.answered.counts)))

  walked-word : {word : ℕ} → word ≡ walked_word walked → AllWords f pool stack places answers pool' stack' places' answers' word
  walked-word is = record { counts = is ∙ ap walked_word w.answered.counts; lays = w.answered.lays; zeroed = w.zeroed }

  pub refused-word : {why : Refusal} {at n word : ℕ} → walked ≡ Refused why at → n ≡ number_of why → word ≡ packed_answer n at 0
      → AllWords f pool stack places answers pool' stack' places' answers' word
  unfolding walked_word
  refused-word {why} {at} is e word_is = walked-word (word_is ∙ rw (is, e) refl)

  pub answered-word : {count word : ℕ} → walked ≡ Ok count → word ≡ packed_answer 0 0 count
      → AllWords f pool stack places answers pool' stack' places' answers' word
  unfolding walked_word
  answered-word is word_is = walked-word (word_is ∙ rw is refl)

-- no two outcomes keep the promise of the call for one statement
pub one_word : {f : List ℕ} {p : ℕ} {pool stack places a b c a₂ b₂ c₂ : List ℕ} {v w : ℕ} → VerifiedWord f p pool stack places a b c v
    → VerifiedWord f p pool stack places a₂ b₂ c₂ w → (v ≡ w) × ((a ≡ a₂) × ((b ≡ b₂) × (c ≡ c₂)))
one_word x y = (
  x.answers ∙ sym y.answers,
  (
    x.zeroed.pool_zero ∙ sym y.zeroed.pool_zero,
    (x.zeroed.stack_zero ∙ sym y.zeroed.stack_zero, x.zeroed.places_zero ∙ sym y.zeroed.places_zero),
  ),
)

-- nor that of the walk
pub one-walk : {f pool stack places answers a b c d a₂ b₂ c₂ d₂ : List ℕ} {v w : ℕ} → AllWords f pool stack places answers a b c d v
    → AllWords f pool stack places answers a₂ b₂ c₂ d₂ w → (v ≡ w) × ((a ≡ a₂) × ((b ≡ b₂) × ((c ≡ c₂) × (d ≡ d₂))))
one-walk x y = (
  x.counts ∙ sym y.counts,
  (
    x.zeroed.pool_zero ∙ sym y.zeroed.pool_zero,
    (
      x.zeroed.stack_zero ∙ sym y.zeroed.stack_zero,
      (x.zeroed.places_zero ∙ sym y.zeroed.places_zero, x.lays ∙ sym y.lays),
    ),
  ),
)
