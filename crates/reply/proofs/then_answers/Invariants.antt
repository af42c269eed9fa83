-- `reply::then_answers` meets its contract: after i statements the lines of the $p among them are in the buffer (`SoFar`).
use Prim.Native.Nat.{◌-◌}
use lib.ListN.{length}
use Rattle.reply.proofs.SoFar.{SoFar}
use Rattle.reply.proofs.then_answers.Given as goal

abbrev pub invariant-loop-i : goal.invariant-loop-i
invariant-loop-i l = SoFar l.file l.initial.out l.initial.done l.out l.done l.i l.taken

abbrev pub decreases-loop-i : goal.decreases-loop-i
decreases-loop-i l = length l.statements - l.i
