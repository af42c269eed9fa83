-- `packed::substitute::do_substitute_raw` meets its contract: after i symbols the pool has the names of those before the i-th (`Joins`).
use Rattle.frames.specs.Layout.{symbols_at}
use Rattle.packed.proofs.Joining.{Joins}
use Rattle.packed.specs.Pool.{spelled}
use Rattle.packed.proofs.substitute.do_substitute_raw.Given as goal

abbrev pub invariant-loop-i : goal.invariant-loop-i
invariant-loop-i l = Joins (spelled l.file l.symbols) (symbols_at l.file l.at) l.used l.limit l.initial.pool l.i l.end l.pool
