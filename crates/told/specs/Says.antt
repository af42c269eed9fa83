-- What is told of an answer, and the room that is lent.
use Rattle.std.specs.Prelude.{ℕ, ◌/◌, List, ◌≡◌}
use Rattle.machine.specs.Answer as answers
use Rattle.machine.specs.Bench.{ended}
use Rattle.machine.specs.Memory.{Room}
use Rattle.machine.specs.Run.{State}
use Rattle.findings.specs.Answers.{Answer}
use Rattle.findings.specs.Tells.{Tells}
use Rattle.told.specs.declared.Told.{Told}

-- number, place and steps are those of the answer
pub record Says (a : answers.Answer) (t : Told) : Type 0 where
  pub number : t.number ≡ answers.number a
  pub place : t.place ≡ answers.place a
  pub steps : t.steps ≡ answers.steps a

-- what is told of a proof's answer: that of every run that it tells
pub record SaysAs (answer : Answer) (t : Told) : Type 0 where
  pub says : (f entries : List ℕ) (s : State) → Tells f entries s answer → Says (ended s) t

-- the room that is lent: bytes of pool, and words of stack and of places, ten to an entry
unfoldable pub room_lent : (pool stack places : ℕ) → Room
room_lent pool stack places = record { pool = pool; stack = stack / 10; places = places / 10 }
