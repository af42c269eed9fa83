-- `rows::numbers::all_variables` meets its contract: the loop stops at the first member that fails. The invariant: the test of what is left of the list is the test of the whole (`AllSoFar`).
use Rattle.frames.proofs.Loops.{AllSoFar}
use Rattle.frames.specs.Layout.{pair_at}
use Rattle.frames.specs.Logic.{rows}
use Rattle.frames.specs.Table.{variables}
use Rattle.rows.proofs.numbers.all_variables.Given as goal

abbrev pub invariant-loop-i : goal.invariant-loop-i
invariant-loop-i l = AllSoFar (variables l.file l.symbols) (rows (pair_at l.file) 4 l.d l.from) l.i
