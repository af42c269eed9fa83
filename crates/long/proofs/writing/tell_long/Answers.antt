-- `writing::tell_long` meets its contract.
use Rattle.long.proofs.Accepting.{refused-long}
use Rattle.long.proofs.writing.tell_long.Goals as goal

pub returns-in-Ok : goal.returns-in-Ok
returns-in-Ok c = rw c.in-Ok.is c.long_accepted.ensures

pub returns-in-Err : goal.returns-in-Err
returns-in-Err c = rw c.in-Err.is (refused-long _ _ _ _ c.tell.ensures)
