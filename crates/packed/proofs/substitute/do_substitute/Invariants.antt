-- `packed::substitute::do_substitute` meets its contract: after i symbols the pool has the pieces of those before the i-th (`Joins`); writing them leaves the images alone (`piece-kept`).
use Rattle.frames.specs.Layout.{symbols_at}
use Rattle.packed.proofs.Joining.{Joins}
use Rattle.packed.specs.Pool.{piece}
use Rattle.packed.proofs.substitute.do_substitute.Given as goal

abbrev pub invariant-loop-i : goal.invariant-loop-i
invariant-loop-i l = Joins (piece l.file l.symbols l.froms l.tos l.initial.pool) (symbols_at l.file l.at) l.used l.limit l.initial.pool l.i l.end l.pool
