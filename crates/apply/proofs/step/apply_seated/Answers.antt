-- `apply::step::apply_seated` meets its contract: the hypotheses first (`seated-refused`, `seated-fine`).
use Rattle.std.proofs.lemmas.Result.{err_from_is_err_and}
use Rattle.apply.proofs.Steps.{seated-fine, seated-refused}
use native.Mathlib.Omega.{arith}
use Rattle.apply.proofs.step.apply_seated.Goals as goal

pub process_hyps-requires : goal.process_hyps-requires
process_hyps-requires c = ((omega (arith, c.requires.used_le_pool.0.0, c.requires.used_le_pool.0.1), (c.requires.ranged.1.0, c.requires.ranged.1.1)), c.requires.ranged.0)

pub apply_checked-requires : goal.apply_checked-requires
apply_checked-requires c = record { used_le_pool = c.requires.used_le_pool; ranged = c.process_hyps.ensures.ranged }

pub returns-in_err-process_hyps : goal.returns-in_err-process_hyps
returns-in_err-process_hyps c =
    let p = err_from_is_err_and c.from_residual.result c.from_residual.ensures.1 in rw (p.1, p.2)
    (seated-refused (rw c.in_err-process_hyps.was at c.process_hyps.ensures))

pub returns : goal.returns
returns c = seated-fine (rw c.in_ok-process_hyps.was at c.process_hyps.ensures) c.apply_checked.ensures
