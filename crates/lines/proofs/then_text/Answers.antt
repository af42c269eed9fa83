-- `lines::then_text` meets its contract: nothing more where the buffer is full (`extends-full`), else the text at the end (`extends-to`).
use Rattle.lines.proofs.Extending.{extends-full, extends-to}
use Rattle.lines.proofs.then_text.Goals as goal

pub returns : goal.returns
returns c = rw c.in_ok-done.was (extends-to c.add_text.ensures)

pub returns-in_err-done : goal.returns-in_err-done
returns-in_err-done c =
    rw c.from_residual.ensures
    (rw c.in_err-done.was (extends-full _ _))
