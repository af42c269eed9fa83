-- `put_statement` meets its contract: what the call tells and writes is the line of the answer that the definition gives (`told_line`).
use Rattle.packed.proofs.Adding.{adds_same}
use Rattle.long_lines.proofs.ToldLines.{told-within, told_line}
use Rattle.long_lines.proofs.put_statement.Goals as goal

pub put_told-requires : goal.put_told-requires
put_told-requires c = told-within _ _ _ _ c.long_statement-told.ensures

pub returns : goal.returns
returns c = adds_same (told_line c.requires.0 c.args.p.0 c.pool_room-pool.result c.stack_room-stack.result c.places_room-places.result _ c.pool_room-pool.ensures c.stack_room-stack.ensures c.places_room-places.ensures c.pool_room-text.ensures c.long_statement-told.ensures c.requires.1 c.statement_offset-at.ensures c.label-label.ensures) c.put_told.ensures
