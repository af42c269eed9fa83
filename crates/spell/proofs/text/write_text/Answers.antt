-- `spell::text::write_text` meets its contract: the word is pending alone (`text-written`).
use mathlib.Core.Path.{◌∙◌}
use lib.ListN.{length-set}
use Rattle.spell.proofs.Writing.{text-no-output, text-no-table, text-written}
use native.Mathlib.Omega.{arith}
use Rattle.spell.proofs.text.write_text.Goals as goal

pub returns-then-out-size : goal.returns-then-out-size
returns-then-out-size c = let a = c.args in text-no-output a.file.now a.tree.now a.word a.size a.pending.now a.out.now c.if-out-size.true

pub returns-then-is_empty : goal.returns-then-is_empty
returns-then-is_empty c = let a = c.args in text-no-table a.file.now a.tree.now a.word a.size a.pending.now a.out.now (grind arith)

pub write_pending-requires : goal.write_pending-requires
write_pending-requires c = let a = c.args in (grind (arith, length-set), omega (arith, c.if-out-size.false))

pub shape_of-pending : goal.shape_of-pending
shape_of-pending c = let a = c.args in c.pending-1.given ∙ length-set a.pending.now 0 a.word

pub returns : goal.returns
returns c = let a = c.args in text-written a.file.now a.tree.now a.word a.size a.pending.now a.out.now _ c.out-1.given c.write_pending.ensures
