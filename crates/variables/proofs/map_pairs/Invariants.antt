-- `variables::map_pairs` meets its contract: after i pairs the members of those before the i-th are numbered (`MapsAll`).
use Rattle.frames.specs.Database.{statement_at}
use Rattle.machine.specs.Run.{members}
use Rattle.variables.specs.Numbering.{MapsAll}
use lib.ListN.{take}
use Rattle.variables.proofs.map_pairs.Given as goal

abbrev pub invariant-loop-i : goal.invariant-loop-i
invariant-loop-i l = MapsAll l.initial.numbers l.count (members (take l.i (statement_at l.file l.at).pairs)) l.numbers l.c
