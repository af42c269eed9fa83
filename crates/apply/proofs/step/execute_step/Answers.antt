-- `apply::step::execute_step` meets its contract: 32, then 33 and 34, then all tests of the assertion.
use Rattle.std.proofs.lemmas.Result.{err_from_is_err_and}
use Rattle.apply.proofs.Steps.{executes-never, executes-refused, executes-seated, executes-underflow}
use native.Mathlib.Omega.{arith}
use Rattle.apply.proofs.step.execute_step.Goals as goal

pub returns-then-depth-n : goal.returns-then-depth-n
returns-then-depth-n c = executes-underflow c.statement_offset-at.ensures c.hypotheses-n.ensures.0 c.requires.ranged.0.0 c.if-depth-n.true

pub returns-then-n-gt64 : goal.returns-then-n-gt64
returns-then-n-gt64 c = executes-never c.statement_offset-at.ensures c.hypotheses-n.ensures.0 c.requires.ranged.0.0 c.if-n-gt64.true

pub seat_entries-requires : goal.seat_entries-requires
seat_entries-requires c = (omega (arith, c.requires.ranged.1.1.0), (c.if-n-gt64.false, c.requires.ranged.1.1.1))

-- the step is recorded
pub record_step-noted-requires : goal.record_step-noted-requires
record_step-noted-requires c = ((omega (arith, c.requires.ranged.1.1.0), c.if-n-gt64.false), c.requires.recorded)

pub apply_seated-requires : goal.apply_seated-requires
apply_seated-requires c = record { used_le_pool = c.requires.used_le_pool; ranged = (c.requires.ranged.0, (c.requires.ranged.1.0, omega (arith, c.requires.ranged.1.1.0))) }

pub returns-in_err-seat_entries : goal.returns-in_err-seat_entries
returns-in_err-seat_entries c =
    let p = err_from_is_err_and c.from_residual.result c.from_residual.ensures.1 in rw (p.1, p.2)
    (executes-refused c.statement_offset-at.ensures c.hypotheses-n.ensures.0 c.if-depth-n.false c.if-n-gt64.false c.requires.ranged.0.0 (rw c.in_err-seat_entries.was at c.seat_entries.ensures))

pub returns : goal.returns
returns c = executes-seated c.statement_offset-at.ensures c.hypotheses-n.ensures.0 c.if-depth-n.false c.if-n-gt64.false (rw c.in_ok-seat_entries.was at c.seat_entries.ensures) c.record_step-noted.ensures c.apply_seated.ensures
