-- `findings::settled` meets its contract.
use mathlib.Core.Path.{refl}
use Rattle.findings.specs.Tells.{answer_of}
use Rattle.findings.proofs.settled.Goals as goal

pub returns-in-Ok : goal.returns-in-Ok
unfolding answer_of
returns-in-Ok c = rw c.in-Ok.is refl

pub returns-in-Err : goal.returns-in-Err
unfolding answer_of
returns-in-Err c = rw c.in-Err.is refl
