-- `run_tokens::in_roster` meets its contract.
use mathlib.Core.Path.{refl}
use Rattle.run_tokens.specs.Tokens.{roster_read}
use Rattle.run_tokens.proofs.in_roster.Goals as goal

pub returns-in-Ok : goal.returns-in-Ok
unfolding roster_read
returns-in-Ok c = rw c.in-Ok.is refl

pub returns-in-Err : goal.returns-in-Err
unfolding roster_read
returns-in-Err c = rw c.in-Err.is refl
