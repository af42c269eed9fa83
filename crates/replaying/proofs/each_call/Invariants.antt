-- `replaying::each_call` ends: each file takes bytes off the list, and its calls put none back. `answer` may be called throughout.
use Rattle.std.proofs.Common.{◌≤◌, length}
use denote.Param.Always.{always_mut}
use Rattle.replaying.proofs.each_call.Given as goal

abbrev pub invariant-loop : goal.invariant-loop
invariant-loop g l = (length l.rest ≤ length l.initial.rest) × (always_mut g.F.FnMut l.initial.answer → always_mut g.F.FnMut l.answer)

abbrev pub invariant-loop-rest : goal.invariant-loop-rest
invariant-loop-rest g l = always_mut g.F.FnMut l.initial.answer → always_mut g.F.FnMut l.answer

abbrev pub decreases-loop-rest : goal.decreases-loop-rest
decreases-loop-rest g l = length l.rest
