-- `memory::table::put_row` meets its contract: its ten words are the part of the table that is copied (`copied_in`).
use Rattle.packed.proofs.Written.{copied_in}
use Rattle.memory.specs.Table.{row_words, with_row}
use Rattle.memory.proofs.table.put_row.Goals as goal
use native.Mathlib.Omega.{arith}

pub returns : goal.returns
unfolding with_row row_words
returns c = rw c.copy_from_slice.ensures.after (copied_in _ _ _ c.args.table.now (omega arith))
