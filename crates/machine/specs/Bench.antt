-- The bench's answer for a frame file, a statement number and the room lent. It depends on nothing else: the definition has the sizes of
-- what is lent and not its bytes.
use Rattle.std.specs.Prelude.{ℕ, List, Ok, Err}
use Rattle.frames.specs.Logic.{equal, pick}
use Rattle.frames.specs.Database.{Database, database}
use Rattle.frames.specs.Facts.{statement_of}
use Rattle.frames.specs.Verdict.{verdict, Verdict}
use Rattle.machine.specs.Answer.{Answer, turned_away, not_provable}
use Rattle.machine.specs.Memory.{Room, limited}
use Rattle.machine.specs.Run.{State, going, over, run}

-- what a run answers (at its end it is over: the last clause is never met)
unfoldable pub ended : State → Answer
ended (over a) = a
ended (going s) = not_provable

-- a good file: 8 where the statement asked for isn't $p, or is none; else the run of its proof
unfoldable pub answer_good : Database → ℕ → Room → Answer
answer_good db p room =
    pick (equal (statement_of db p).kind 5) (ended (run db p (limited room) (statement_of db p).text)) not_provable

-- 1 to 7 come from the frame file
unfoldable pub judged : Verdict → Answer → Answer
judged (Ok sizes) a = a
judged (Err away) a = turned_away away.why away.place

unfoldable pub answer : List ℕ → ℕ → Room → Answer
answer file p room = judged (verdict file) (answer_good (database file) p room)
