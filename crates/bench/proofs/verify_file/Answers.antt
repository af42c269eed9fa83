-- `verify_file` meets its contract: the file is checked, then the statement is answered.
use native.Mathlib.Omega.{arith}
use Rattle.bench.proofs.Checking.{symbols-fit, symbols-length, statements-fit, statements-length, filed, good-says, refused_says}
use Rattle.bench.proofs.verify_file.Goals as goal

pub slice_bounds-symbols-end : goal.slice_bounds-symbols-end
slice_bounds-symbols-end c = symbols-fit c.check.ensures c.in-Ok.is (omega arith)

pub slice_bounds-verify_checked-end : goal.slice_bounds-verify_checked-end
slice_bounds-verify_checked-end c = symbols-length c.check.ensures c.in-Ok.is

pub slice_bounds-statements-end : goal.slice_bounds-statements-end
slice_bounds-statements-end c = statements-fit c.check.ensures c.in-Ok.is (omega arith)

pub slice_bounds-verify_checked-end-in-Ok : goal.slice_bounds-verify_checked-end-in-Ok
slice_bounds-verify_checked-end-in-Ok c = statements-length c.check.ensures c.in-Ok.is

pub verify_checked-requires : goal.verify_checked-requires
verify_checked-requires c = filed c.check.ensures c.in-Ok.is

pub returns-in-Err : goal.returns-in-Err
returns-in-Err c = refused_says c.check.ensures _ _ c.in-Err.is c.number.ensures

pub returns-in-Ok : goal.returns-in-Ok
returns-in-Ok c = good-says c.check.ensures c.in-Ok.is _ _ c.verify_checked.ensures
