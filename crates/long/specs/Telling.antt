-- What is told of a proof's answer where its long form is asked for.
use Rattle.std.specs.Prelude.{ℕ, ◌≤◌, min, ◌≡◌, List, length}
use Rattle.frames.specs.Database.{database, GoodFile}
use Rattle.machine.specs.Bench.{ended}
use Rattle.machine.specs.Promise.{Counted}
use Rattle.machine.specs.Run.{State}
use Rattle.findings.specs.Answers.{Answer}
use Rattle.findings.specs.Tells.{Tells}
use Rattle.postorder.specs.LongForm.{long_of}
use Rattle.told.specs.declared.Told.{Told}
use Rattle.long.specs.Calls.{SaysLong}

-- what is told and written is the long answer of every run that the proof's answer tells; of so many tree entries that were lent, at most 131,072 were used
pub record TellsLong (f entries : List ℕ) (lent : ℕ) (answer : Answer) (output output' : List ℕ) (t : Told) : Type 0 where
  pub says : (L : ℕ) (s : State) → GoodFile f → Tells f entries s answer → Counted L (ended s) → L ≤ 65536 → length entries ≡ min lent 131072
      → SaysLong (long_of (database f) lent (length output) (ended s)) output output' t
