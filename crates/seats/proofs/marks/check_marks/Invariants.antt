-- `seats::marks::check_marks` meets its contract: the rows so far passed (`Judging`).
use Rattle.seats.specs.Marks.{labels_at}
use Rattle.seats.proofs.Checking.{Judging}
use Rattle.seats.proofs.marks.check_marks.Given as goal

abbrev pub invariant-loop-k : goal.invariant-loop-k
invariant-loop-k l = Judging (labels_at l.file l.statements l.at) l.text l.stack l.base l.to l.k
