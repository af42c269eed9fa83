-- `rows::numbers::all_defined` meets its contract: the loop stops at the first member that fails. The invariant: the test of what is left of the list is the test of the whole (`AllSoFar`).
use Rattle.frames.proofs.Loops.{AllSoFar}
use Rattle.frames.specs.Layout.{u16}
use Rattle.frames.specs.Logic.{rows}
use Rattle.frames.specs.Table.{defined}
use Rattle.rows.proofs.numbers.all_defined.Given as goal

abbrev pub invariant-loop-i : goal.invariant-loop-i
invariant-loop-i l = AllSoFar (defined l.symbols) (rows (u16 l.file) 2 l.n l.from) l.i
