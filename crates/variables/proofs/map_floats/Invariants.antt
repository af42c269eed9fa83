-- `variables::map_floats` meets its contract: after j hypotheses the variables of the $f before the j-th are numbered (`MapsAll`).
use Rattle.frames.specs.Database.{statement_at}
use Rattle.variables.specs.Numbering.{MapsAll, floats_at}
use lib.ListN.{take}
use Rattle.variables.proofs.map_floats.Given as goal

abbrev pub invariant-loop-j : goal.invariant-loop-j
invariant-loop-j l = MapsAll l.initial.numbers l.count (floats_at l.file l.statements (take l.j (statement_at l.file l.at).hyps)) l.numbers l.c
