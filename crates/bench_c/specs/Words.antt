-- The calls' answers as one number each.
use Rattle.std.specs.Prelude.{ℕ, ◌≡◌, length, List, Ok, Err}
use Rattle.clearing.specs.Cleared.{cleared}
use Rattle.frames.specs.Verdict.{laid, number_of, verdict}
use Rattle.postorder.specs.LongForm.{LongAnswer, long_answer}
use Rattle.frames.specs.Database.{database}
use Rattle.answers.specs.Packed.{packed_answer}
use Rattle.bench.specs.Calls.{room_in, Zeroed}
use Rattle.walk.specs.Walk.{Walked, answer_word, answer_words, walked_of, laid_answers}

-- one statement: its answer as one number, and nothing is left in what was lent
pub record VerifiedWord (f : List ℕ) (p : ℕ) (pool stack places pool' stack' places' : List ℕ) (word : ℕ) : Type 0 where
  pub answers : word ≡ answer_word f (room_in pool stack places) p
  pub zeroed : Zeroed pool stack places pool' stack' places'

-- number and place of a refusal of the file; or 0, 0 and how many $p there are
unfoldable pub walked_word : Walked → ℕ
walked_word (Err away) = packed_answer (number_of away.why) away.place 0
walked_word (Ok count) = packed_answer 0 0 count

-- all $p: how many there are, the answer of each, and nothing is left in what was lent
pub record AllWords (f pool stack places answers pool' stack' places' answers' : List ℕ) (word : ℕ) : Type 0 where
  pub counts : word ≡ walked_word (walked_of (verdict f) (database f))
  pub lays : answers' ≡ laid_answers (verdict f) (answer_words f (room_in pool stack places)) answers
  pub zeroed : Zeroed pool stack places pool' stack' places'

-- an answer of the long-form call as one number
unfoldable pub long_word : LongAnswer → ℕ
long_word a = packed_answer a.number a.place a.steps

-- the long form of one statement's proof: its answer as one number, its text in front of the output, and nothing is left in what was lent for the run
pub record LongWord (f : List ℕ) (p : ℕ) (pool stack places tree output pool' stack' places' tree' output' : List ℕ) (word : ℕ) : Type 0 where
  pub answers : word ≡ long_word (long_answer f p (room_in pool stack places) (length tree) (length output))
  pub written : output' ≡ laid (long_answer f p (room_in pool stack places) (length tree) (length output)).text output
  pub zeroed : Zeroed pool stack places pool' stack' places'
  pub tree_zero : tree' ≡ cleared tree
