-- `frames_replay::replay_all` ends: each file takes bytes off the list, so there are no more files than bytes.
use Rattle.std.proofs.Common.{◌≤◌, ◌+◌, length}
use Rattle.frames_replay.proofs.replay_all.Given as goal

abbrev pub invariant-loop-rest : goal.invariant-loop-rest
invariant-loop-rest l = l.files + length l.rest ≤ length l.list

abbrev pub decreases-loop-rest : goal.decreases-loop-rest
decreases-loop-rest l = length l.rest
