-- `run_bytes::after` meets its contract.
use Rattle.run_bytes.proofs.Byting.{after-go, after_stop}
use Rattle.run_bytes.proofs.after.Goals as goal

pub returns-in-Ok : goal.returns-in-Ok
returns-in-Ok c = rw c.in-Ok.is after-go

pub returns-in-Err : goal.returns-in-Err
returns-in-Err c = rw c.in-Err.is after_stop
