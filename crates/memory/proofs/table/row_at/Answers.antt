-- `memory::table::row_at` meets its contract: each field is its word.
use Rattle.memory.proofs.Tables.{row_read-words}
use Rattle.memory.proofs.table.row_at.Goals as goal

pub returns : goal.returns
returns c = row_read-words c.args.table.now c.args.k _ c.entry_or-head.ensures c.entry_or-from.ensures c.entry_or-to.ensures c.entry_or-tag.ensures c.entry_or-end.ensures c.entry_or-node.ensures c.from_table.ensures
