-- `rows::framing::has_equal_pair` meets its contract: the loop stops at the first member that passes. The invariant: the test of what is left of the list is the test of the whole (`AnySoFar`).
use Rattle.frames.proofs.Loops.{AnySoFar}
use Rattle.frames.specs.Layout.{pair_at}
use Rattle.frames.specs.Logic.{rows}
use Rattle.frames.specs.Table.{equal_members}
use Rattle.rows.proofs.framing.has_equal_pair.Given as goal

abbrev pub invariant-loop-i : goal.invariant-loop-i
invariant-loop-i l = AnySoFar (equal_members) (rows (pair_at l.file) 4 l.d l.from) l.i
