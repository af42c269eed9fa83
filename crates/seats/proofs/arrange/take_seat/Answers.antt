-- `seats::arrange::take_seat` meets its contract: each return is one way to take a seat.
use Rattle.seats.proofs.Marking.{takes-marked, takes-next, takes-none}
use Rattle.seats.proofs.arrange.take_seat.Goals as goal

pub returns-in-Some : goal.returns-in-Some
returns-in-Some c = takes-marked c.requires.1.0 c.requires.1.1 c.in-Some.ensures

pub returns-in-Some-next_unmarked : goal.returns-in-Some-next_unmarked
returns-in-Some-next_unmarked c = takes-next c.requires.1.0 c.requires.1.1 c.in-None.ensures c.in-Some-next_unmarked.ensures

pub returns-in-None-next_unmarked : goal.returns-in-None-next_unmarked
returns-in-None-next_unmarked c = takes-none c.requires.1.0 c.requires.1.1 c.requires.0.0 c.in-None.ensures c.in-None-next_unmarked.ensures
