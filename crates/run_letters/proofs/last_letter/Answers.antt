-- `run_letters::last_letter` meets its contract: the step at the place, and what comes after it (`last-read`).
use Rattle.run.proofs.Running.{images-there, room-there, tree-there}
use Rattle.run_letters.proofs.Lettering.{last-read}
use Rattle.run_letters.proofs.last_letter.Goals as goal

pub run_unmarked-outcome-requires : goal.run_unmarked-outcome-requires
run_unmarked-outcome-requires c = let r = c.requires.running in record { used_le_pool = room-there r; ranged = images-there r; recorded = tree-there r }

pub after_last-requires : goal.after_last-requires
after_last-requires c = c.requires.low.1.1

pub returns : goal.returns
returns c = rw c.after_last.ensures (last-read c.requires.running c.seats-1.given _ c.run_unmarked-outcome.ensures)
