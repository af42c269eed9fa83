-- The promise of the walk: no two outcomes keep it; each $p has its answer, which is that of the call for one statement; and an answer of
-- 0 means a derivation.
use Prim.Native.Nat.{ℕ, zero, suc, ◌<◌}
use mathlib.Core.Path.{◌≡◌, refl, sym, ◌∙◌, ap}
use mathlib.Core.List.{List, [], ◌∷◌, ◌++◌, map}
use native.Mathlib.Omega.{arith}
use lib.ListN.{length, get_or, take, drop, length-map, length-take, get_or-append}
use lib.Seq.{get_or-take}
use Rattle.book.specs.Book.{Tree}
use Rattle.frames.specs.Verdict.{laid}
use Rattle.frames.specs.Database.{database, GoodFile}
use Rattle.machine.specs.Promise.{Proves}
use Rattle.machine.proofs.Acceptance.{zero-means-derivation}
use Rattle.answers.specs.Packed.{packed_answer, number_in}
use Rattle.bench.specs.Calls.{room_in}
use Rattle.bench.proofs.Small.{answer-small}
use Rattle.walk.specs.Walk.{Walked, provable, word_of, answer_word, answer_words, laid_answers, WalksAll}

-- all that a caller has after the call
pub record Outcome : Type 0 where
  pub walked : Walked
  pub pool : List ℕ
  pub stack : List ℕ
  pub places : List ℕ
  pub answers : List ℕ

abbrev outcome : Walked → (pool stack places answers : List ℕ) → Outcome
outcome w pool stack places answers = record { walked = w; pool = pool; stack = stack; places = places; answers = answers }

-- no two outcomes keep the promise
pub one-outcome : (f pool stack places answers : List ℕ) (x y : Outcome)
    → WalksAll f pool stack places answers x.pool x.stack x.places x.answers x.walked
    → WalksAll f pool stack places answers y.pool y.stack y.places y.answers y.walked → x ≡ y
one-outcome f pool stack places answers x y v w =
    let t : x.walked ≡ y.walked = v.answered.counts ∙ sym w.answered.counts in
    let d : x.answers ≡ y.answers = v.answered.lays ∙ sym w.answered.lays in
    let a : x.pool ≡ y.pool = v.zeroed.pool_zero ∙ sym w.zeroed.pool_zero in
    let b : x.stack ≡ y.stack = v.zeroed.stack_zero ∙ sym w.zeroed.stack_zero in
    let c : x.places ≡ y.places = v.zeroed.places_zero ∙ sym w.zeroed.places_zero in
    let whole : outcome x.walked x.pool x.stack x.places x.answers ≡ outcome y.walked y.pool y.stack y.places y.answers = cc in
    whole

-- the i-th $p has its answer at i: that of the call for one statement
module _ {f pool stack places answers pool' stack' places' answers' : List ℕ} {walked : Walked}
    (w : WalksAll f pool stack places answers pool' stack' places' answers' walked) (good : GoodFile f) (i : ℕ)
    (there : i < length (provable (database f))) (fits : i < length answers) where
  pub each-answer : get_or answers' i 0 ≡ answer_word f (room_in pool stack places) (get_or (provable (database f)) i 0)
  unfolding laid_answers laid answer_words
  each-answer =
      let room = room_in pool stack places in
      let ps = provable (database f) in
      let words = map (answer_word f room) ps in
      let m = length-map ps (answer_word f room) in
      let n = length-take (length answers) words in
      let is : answers' ≡ take (length answers) words ++ drop (length (take (length answers) words)) answers = w.answered.lays ∙ rw good.is refl in
      ap (λ (l : List ℕ). get_or l i 0) is
      ∙ get_or-append (take (length answers) words) _ 0 i (omega arith)
      ∙ get_or-take (length answers) words i 0 fits
      ∙ mapped ps i (omega arith)
    where
      mapped : (ps : List ℕ) (j : ℕ) → j < length ps
          → get_or (map (answer_word f (room_in pool stack places)) ps) j 0 ≡ answer_word f (room_in pool stack places) (get_or ps j 0)
      mapped [] j h = absurd (omega arith)
      mapped (q ∷ qs) zero h = refl
      mapped (q ∷ qs) (suc j) h = mapped qs j (omega arith)

  -- demand 2: where its number is 0, there is a derivation
  pub zero-derives : number_in (get_or answers' i 0) ≡ 0
      → (tree : Tree) × Proves (database f) (get_or (provable (database f)) i 0) tree
  unfolding answer_word word_of packed_answer number_in
  zero-derives zero_number =
      let room = room_in pool stack places in
      let p = get_or (provable (database f)) i 0 in
      let s = (answer-small f p room).number_small in
      let e = each-answer in
      zero-means-derivation f p room (omega arith)
