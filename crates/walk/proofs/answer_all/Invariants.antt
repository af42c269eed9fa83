-- `walk::answer_all` meets its contract: after i statements the answers of their $p are laid (`SoFar`).
use Rattle.walk.proofs.SoFar.{SoFar, SameSizes}
use Rattle.bench.specs.Calls.{room_in}
use Rattle.walk.proofs.answer_all.Given as goal

abbrev pub invariant-loop-i : goal.invariant-loop-i
invariant-loop-i l = SoFar l.file (room_in l.initial.pool l.initial.stack l.initial.places) l.initial.answers l.answers l.i l.count × SameSizes l.initial.table l.initial.seats l.initial.froms l.initial.tos l.initial.sets l.initial.numbers l.initial.pool l.initial.stack l.initial.places l.initial.locals l.table l.seats l.froms l.tos l.sets l.numbers l.pool l.stack l.places l.locals
