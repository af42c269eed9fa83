-- `packed::compare::do_substitute_eq` meets its contract: the symbols are met one after another (`Meets`), and at the end nothing is left.
use Rattle.frames.specs.Layout.{symbols_at}
use Rattle.packed.proofs.Comparing.{Meets}
use Rattle.packed.specs.Pool.{piece}
use Rattle.packed.proofs.compare.do_substitute_eq.Given as goal

abbrev pub invariant-loop-i : goal.invariant-loop-i
invariant-loop-i l = Meets (piece l.file l.symbols l.froms l.tos l.pool) (symbols_at l.file l.at) l.pool l.from l.to l.c l.i
