-- `run::letters::save_letter` meets its contract.
use Rattle.run.proofs.Lettering.{save-full, save-go, save-not}
use Rattle.run.proofs.letters.save_letter.Goals as goal

pub save_top-requires : goal.save_top-requires
save_top-requires c = c.requires.limit_in_bounds

pub returns-in-Ok : goal.returns-in-Ok
returns-in-Ok c = rw c.if-saves.true (save-go c.requires.low (rw c.in-Ok.is at c.save_top.ensures))

pub returns-in-Err : goal.returns-in-Err
returns-in-Err c = rw c.if-saves.true (save-full (rw c.in-Err.is at c.save_top.ensures))

pub returns : goal.returns
returns c = rw c.if-saves.false save-not
