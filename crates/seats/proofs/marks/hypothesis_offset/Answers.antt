-- `seats::marks::hypothesis_offset` meets its contract.
use Rattle.seats.proofs.marks.hypothesis_offset.Goals as goal

pub returns : goal.returns
returns c = cc
