-- `rows::numbers::all_active` meets its contract: the loop stops at the first member that fails. The invariant: the test of what is left of the list is the test of the whole (`AllSoFar`).
use Rattle.frames.proofs.Loops.{AllSoFar}
use Rattle.frames.specs.Layout.{u32}
use Rattle.frames.specs.Logic.{rows}
use Rattle.frames.specs.Table.{active}
use lib.ListN.{length}
use Rattle.rows.proofs.numbers.all_active.Given as goal

abbrev pub invariant-loop-i : goal.invariant-loop-i
invariant-loop-i l = AllSoFar (active l.file l.statements (length l.statements)) (rows (u32 l.file) 4 l.h l.from) l.i
