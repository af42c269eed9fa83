-- `seats::arrange::seat_in_order` meets its contract: the seats so far have their own numbers.
use lib.ListN.{length-set}
use Rattle.seats.proofs.Seating.{order-none, order-more, order-done}
use native.Mathlib.Omega.{arith}
use Rattle.seats.proofs.arrange.seat_in_order.Goals as goal

pub loop-j-init : goal.loop-j-init
loop-j-init c = (omega arith, order-none _)

pub loop-j-preserved : goal.loop-j-preserved
loop-j-preserved c = ((omega arith, simp length-set c.loop-j.invariant.0.1), order-more c.loop-j.invariant.1 (omega arith))

pub returns : goal.returns
returns c = order-done c.loop-j.invariant.1 (omega arith)
