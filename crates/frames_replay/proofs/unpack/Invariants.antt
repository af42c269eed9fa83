-- `frames_replay::unpack` ends: each run takes bytes off the list.
use Rattle.std.proofs.Common.{◌≤◌, length}
use Rattle.frames_replay.proofs.unpack.Given as goal

abbrev pub invariant-loop-longer : goal.invariant-loop-longer
invariant-loop-longer l = length l.list.now ≤ length l.fn.list.now

abbrev pub decreases-loop-longer : goal.decreases-loop-longer
decreases-loop-longer l = length l.list.now
