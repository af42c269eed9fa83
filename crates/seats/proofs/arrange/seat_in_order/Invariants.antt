-- `seats::arrange::seat_in_order` meets its contract: the seats so far have their own numbers.
use lib.ListN.{length}
use Prim.Native.Nat.{◌≤◌}
use mathlib.Core.Path.{◌≡◌}
use lib.ListN.{length}
use Rattle.seats.specs.Seats.{InOrder}
use Rattle.seats.proofs.arrange.seat_in_order.Given as goal

abbrev pub invariant-loop-j : goal.invariant-loop-j
invariant-loop-j l = ((l.j ≤ l.count) × (length l.seats ≡ length l.initial.seats)) × InOrder l.j l.seats
