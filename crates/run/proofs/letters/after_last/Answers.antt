-- `run::letters::after_last` meets its contract, by the two cases of the outcome.
use Rattle.run.specs.Letters.{after_last}
use mathlib.Core.Path.{refl}
use Rattle.run.proofs.letters.after_last.Goals as goal

pub returns-in-Ok : goal.returns-in-Ok
unfolding after_last
returns-in-Ok c = rw c.in-Ok.is refl

pub returns-in-Err : goal.returns-in-Err
unfolding after_last
returns-in-Err c = rw c.in-Err.is refl
