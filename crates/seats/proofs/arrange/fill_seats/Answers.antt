-- `seats::arrange::fill_seats` meets its contract: the seats so far are filled (`FillingAll`).
use lib.ListN.{length-set}
use Rattle.seats.proofs.Marking.{labels_length, here_label}
use Rattle.seats.proofs.Seating.{fill_none, fill_more, fill_done}
use native.Mathlib.Omega.{arith}
use Rattle.seats.proofs.arrange.fill_seats.Goals as goal

pub loop-j-init : goal.loop-j-init
loop-j-init c = (omega arith, fill_none _)

pub take_seat-t-requires : goal.take_seat-t-requires
take_seat-t-requires c = let v = c.loop-j.invariant.1 in ((omega arith, omega arith), (v.low, v.high))

pub overflow_sub-i : goal.overflow_sub-i
overflow_sub-i c = omega (arith, c.take_seat-t.ensures.low)

pub overflow_cast-seats : goal.overflow_cast-seats
overflow_cast-seats c = omega (arith, c.take_seat-t.ensures.low, c.take_seat-t.ensures.high)

pub loop-j-preserved : goal.loop-j-preserved
loop-j-preserved c = ((omega arith, simp length-set c.loop-j.invariant.0.1), fill_more _ _ c.loop-j.invariant.1 (omega arith) (omega arith) (λ h. here_label c.args.file.now c.args.statements.now c.args.at _ (let n = labels_length c.args.file.now c.args.statements.now c.args.at in omega arith) c.hypothesis_offset-o.ensures c.label.ensures) c.take_seat-t.ensures (omega arith) (omega arith))

pub returns : goal.returns
returns c = fill_done c.loop-j.invariant.1 (omega arith)
