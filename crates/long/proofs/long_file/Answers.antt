-- `long_file` meets its contract: the file is checked, then the statement is answered.
use native.Mathlib.Omega.{arith}
use Rattle.bench.proofs.Checking.{symbols-fit, symbols-length, statements-fit, statements-length, filed}
use Rattle.long.proofs.Answering.{good-long, turned-long}
use Rattle.long.proofs.long_file.Goals as goal

pub slice_bounds-symbols-end : goal.slice_bounds-symbols-end
slice_bounds-symbols-end c = symbols-fit c.check.ensures c.in-Ok.is (omega arith)

pub slice_bounds-long_statement-end : goal.slice_bounds-long_statement-end
slice_bounds-long_statement-end c = symbols-length c.check.ensures c.in-Ok.is

pub slice_bounds-statements-end : goal.slice_bounds-statements-end
slice_bounds-statements-end c = statements-fit c.check.ensures c.in-Ok.is (omega arith)

pub slice_bounds-long_statement-end-in-Ok : goal.slice_bounds-long_statement-end-in-Ok
slice_bounds-long_statement-end-in-Ok c = statements-length c.check.ensures c.in-Ok.is

pub long_statement-requires : goal.long_statement-requires
long_statement-requires c = record { filed = filed c.check.ensures c.in-Ok.is; entries = omega (arith, c.requires) }

pub returns-in-Err : goal.returns-in-Err
returns-in-Err c = turned-long _ _ c.check.ensures _ _ c.in-Err.is c.number.ensures

pub returns-in-Ok : goal.returns-in-Ok
returns-in-Ok c = good-long _ _ c.check.ensures _ _ c.in-Ok.is _ c.long_statement.ensures
