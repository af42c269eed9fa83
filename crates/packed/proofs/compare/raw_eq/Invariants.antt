-- `packed::compare::raw_eq` meets its contract: the symbols are met one after another (`Meets`), and at the end nothing is left.
use Rattle.frames.specs.Layout.{symbols_at}
use Rattle.packed.proofs.Comparing.{Meets}
use Rattle.packed.specs.Pool.{spelled}
use Rattle.packed.proofs.compare.raw_eq.Given as goal

abbrev pub invariant-loop-j : goal.invariant-loop-j
invariant-loop-j l = Meets (spelled l.file l.symbols) (symbols_at l.file l.at) l.pool l.from l.to l.d l.j
