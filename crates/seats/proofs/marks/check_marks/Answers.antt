-- `seats::marks::check_marks` meets its contract: the rows so far passed (`Judging`).
use Rattle.std.proofs.lemmas.Result.{err_from_is_err_and}
use Rattle.seats.proofs.Checking.{judging-none, judging-more, judging-stop, judging-done}
use native.Mathlib.Omega.{arith}
use Rattle.seats.proofs.marks.check_marks.Goals as goal

pub loop-k-init : goal.loop-k-init
loop-k-init c = judging-none c.requires.0

pub check_mark-requires : goal.check_mark-requires
check_mark-requires c = let v = c.loop-k.invariant in (v.low, omega arith)

pub loop-k-preserved : goal.loop-k-preserved
loop-k-preserved c = judging-more c.loop-k.invariant (omega arith) c.in_ok-check_mark.was c.check_mark.ensures

pub returns-in_err-check_mark : goal.returns-in_err-check_mark
returns-in_err-check_mark c =
    let p = err_from_is_err_and c.from_residual.result c.from_residual.ensures.1 in rw (p.1, p.2)
    (judging-stop c.loop-k.invariant (omega arith) c.in_err-check_mark.was c.check_mark.ensures)

pub returns : goal.returns
returns c = judging-done c.loop-k.invariant (omega arith)
