-- `seats::arrange::fill_seats` meets its contract: the seats so far are filled (`FillingAll`).
use Prim.Native.Nat.{◌≤◌}
use mathlib.Core.Path.{◌≡◌}
use lib.ListN.{length}
use Rattle.seats.specs.Marks.{labels_at}
use Rattle.seats.proofs.Seating.{FillingAll}
use Rattle.seats.proofs.arrange.fill_seats.Given as goal

abbrev pub invariant-loop-j : goal.invariant-loop-j
invariant-loop-j l = ((l.j ≤ l.count) × (length l.seats ≡ length l.initial.seats)) × FillingAll (labels_at l.file l.statements l.at) l.text l.stack l.base l.count l.j l.next l.seats
