-- What the long-form call promises: number, place and steps of the answer, what the output holds then, and that nothing is left in what was lent for the run.
use Rattle.std.specs.Prelude.{ℕ, ◌≡◌, List, length}
use Rattle.clearing.specs.Cleared.{cleared}
use Rattle.frames.specs.Verdict.{laid}
use Rattle.postorder.specs.LongForm.{LongAnswer, long_answer}
use Rattle.told.specs.declared.Told.{Told}
use Rattle.bench.specs.Calls.{room_in, Zeroed}

-- number, place and steps are those of the answer; its text stands in front of the output, and after it is what stood there. (A refusal has no text)
pub record SaysLong (a : LongAnswer) (output output' : List ℕ) (t : Told) : Type 0 where
  pub number : t.number ≡ a.number
  pub place : t.place ≡ a.place
  pub steps : t.steps ≡ a.steps
  pub written : output' ≡ laid a.text output

-- the long form of one statement's proof: the answer to file, statement number, room, tree entries and output bytes
pub record WritesLongForm (f : List ℕ) (p : ℕ) (pool stack places tree output pool' stack' places' tree' output' : List ℕ) (told : Told) : Type 0 where
  pub says : SaysLong (long_answer f p (room_in pool stack places) (length tree) (length output)) output output' told
  pub tree_zero : tree' ≡ cleared tree
  pub zeroed : Zeroed pool stack places pool' stack' places'
