-- `rows::framing::are_given` meets its contract: the loop stops at the first member that fails. The invariant: the test of what is left of the list is the test of the whole (`AllSoFar`).
use Rattle.frames.proofs.Loops.{AllSoFar}
use Rattle.frames.specs.Layout.{u16, u32}
use Rattle.frames.specs.Logic.{rows}
use Rattle.frames.specs.Table.{symbol_given}
use Rattle.rows.proofs.framing.are_given.Given as goal

abbrev pub invariant-loop-i : goal.invariant-loop-i
invariant-loop-i l = AllSoFar (symbol_given l.file l.symbols l.statements (rows (u32 l.file) 4 l.h l.from) l.limit) (rows (u16 l.file) 2 l.n l.first) l.i
