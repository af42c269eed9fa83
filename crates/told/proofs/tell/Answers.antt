-- `told::tell` meets its contract.
use Rattle.told.proofs.Telling.{accepted-told, refused-told}
use Rattle.told.proofs.tell.Goals as goal

pub returns-in-Ok : goal.returns-in-Ok
returns-in-Ok c = rw c.in-Ok.is accepted-told

pub returns-in-Err : goal.returns-in-Err
returns-in-Err c = rw c.in-Err.is (refused-told c.refusal_number-number.ensures)
