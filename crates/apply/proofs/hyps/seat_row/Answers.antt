-- `apply::hyps::seat_row` meets its contract.
use mathlib.Core.Path.{refl}
use Rattle.apply.proofs.Processing.{seat-read}
use Rattle.apply.proofs.hyps.seat_row.Goals as goal

pub returns : goal.returns
returns c = seat-read c.entry-i.ensures refl c.row_at-row.ensures c.clamped.ensures
