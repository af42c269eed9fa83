-- `seats::seat_entries` meets its contract: no mark at all (`seats-in-order`), marks that pass (`seats-filled`) or a refusal (`seats-refused`).
use Rattle.std.proofs.lemmas.Result.{err_from_is_err_and}
use Rattle.seats.proofs.Settling.{seats-in-order, seats-filled, seats-refused}
use Rattle.seats.proofs.seat_entries.Goals as goal

pub returns-then-none_marked : goal.returns-then-none_marked
returns-then-none_marked c = seats-in-order (c.none_marked.ensures.none c.if-none_marked.true) c.seat_in_order.ensures

pub returns : goal.returns
returns c = seats-filled c.in_ok-check_marks.was c.check_marks.ensures c.fill_seats.ensures

pub returns-in_err-check_marks : goal.returns-in_err-check_marks
returns-in_err-check_marks c =
    let p = err_from_is_err_and c.from_residual.result c.from_residual.ensures.1 in rw (p.1, p.2)
    (seats-refused c.in_err-check_marks.was c.check_marks.ensures)
