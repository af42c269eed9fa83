-- `write_reply` is safe: a good file was checked (`taken-good`), so the fronts of the two tables are its index.
use native.Mathlib.Omega.{arith}
use Rattle.bench.proofs.Checking.{symbols-fit, symbols-length, statements-fit, statements-length, filed}
use Rattle.long_lines.proofs.Checks.{taken-good}
use Rattle.long_lines.proofs.write_reply.Goals as goal

pub slice_bounds-symbols-end : goal.slice_bounds-symbols-end
slice_bounds-symbols-end c = symbols-fit (taken-good c.check_input.ensures c.in-Ok.is) c.in-Ok.is (omega arith)

pub slice_bounds-write_lines-end : goal.slice_bounds-write_lines-end
slice_bounds-write_lines-end c = symbols-length (taken-good c.check_input.ensures c.in-Ok.is) c.in-Ok.is

pub slice_bounds-statements-end : goal.slice_bounds-statements-end
slice_bounds-statements-end c = statements-fit (taken-good c.check_input.ensures c.in-Ok.is) c.in-Ok.is (omega arith)

pub slice_bounds-write_lines-end-in-Ok : goal.slice_bounds-write_lines-end-in-Ok
slice_bounds-write_lines-end-in-Ok c = statements-length (taken-good c.check_input.ensures c.in-Ok.is) c.in-Ok.is

pub write_lines-requires : goal.write_lines-requires
write_lines-requires c = filed (taken-good c.check_input.ensures c.in-Ok.is) c.in-Ok.is
