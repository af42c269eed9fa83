-- `walk::walk_file` meets its contract: the file is checked, then all its $p are answered.
use native.Mathlib.Omega.{arith}
use Rattle.std.proofs.lemmas.Result.{err_from_is_err_and}
use Rattle.walk.proofs.Filewise.{walk_refused, walk-good}
use Rattle.bench.proofs.Checking.{symbols-fit, symbols-length, statements-fit, statements-length, filed}
use Rattle.walk.proofs.walk_file.Goals as goal

pub slice_bounds-symbols-end : goal.slice_bounds-symbols-end
slice_bounds-symbols-end c = symbols-fit c.check.ensures c.in_ok-sizes.was (omega arith)

pub slice_bounds-walk_checked-end : goal.slice_bounds-walk_checked-end
slice_bounds-walk_checked-end c = symbols-length c.check.ensures c.in_ok-sizes.was

pub slice_bounds-statements-end : goal.slice_bounds-statements-end
slice_bounds-statements-end c = statements-fit c.check.ensures c.in_ok-sizes.was (omega arith)

pub slice_bounds-walk_checked-end-2 : goal.slice_bounds-walk_checked-end-2
slice_bounds-walk_checked-end-2 c = statements-length c.check.ensures c.in_ok-sizes.was

pub walk_checked-requires : goal.walk_checked-requires
walk_checked-requires c = filed c.check.ensures c.in_ok-sizes.was

pub returns-in_err-sizes : goal.returns-in_err-sizes
returns-in_err-sizes c =
    let p = err_from_is_err_and c.from_residual.result c.from_residual.ensures.1 in rw (p.1, p.2)
    (walk_refused c.check.ensures c.in_err-sizes.was)

pub returns : goal.returns
returns c = walk-good c.check.ensures c.in_ok-sizes.was c.walk_checked.ensures
