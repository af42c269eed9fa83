-- `disjoint::table::fill` meets its contract: after i pairs the table has those before the i-th (`Fills`).
use lib.ListN.{take}
use Rattle.frames.specs.Database.{statement_at}
use Rattle.disjoint.specs.Disjoint.{Fills}
use Rattle.disjoint.proofs.table.fill.Given as goal

abbrev pub invariant-loop-i : goal.invariant-loop-i
invariant-loop-i l = Fills l.numbers (take l.i (statement_at l.file l.at).pairs) l.initial.table l.table
