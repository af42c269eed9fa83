-- `rows::framing::has_second_float` meets its contract: the loop stops at the first member that passes. The invariant: the test of what is left of the list is the test of the whole (`AnySoFar`).
use Rattle.frames.proofs.Loops.{AnySoFar}
use Rattle.frames.specs.Layout.{u32}
use Rattle.frames.specs.Logic.{rows}
use Rattle.frames.specs.Table.{second_float}
use Rattle.rows.proofs.framing.has_second_float.Given as goal

abbrev pub invariant-loop-i : goal.invariant-loop-i
invariant-loop-i l = AnySoFar (second_float l.file l.statements (rows (u32 l.file) 4 l.h l.from)) (rows (u32 l.file) 4 l.h l.from) l.i
