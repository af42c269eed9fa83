-- `spell::words::put_words` meets its contract: after i words the table has the first i of them (`Copied`).
use mathlib.Core.Path.{sym, ◌∙◌}
use Rattle.packed.proofs.Copies.{copied_all, copied-length, copied_more, copied_none}
use Rattle.spell.specs.Words.{entries_from}
use Rattle.spell.proofs.Opening.{entries-length, entries_at}
use native.Mathlib.Omega.{arith}
use Rattle.spell.proofs.words.put_words.Goals as goal

pub loop-i-init : goal.loop-i-init
loop-i-init c = let a = c.args in copied_none (entries_from a.tree.now a.from a.n) a.at a.table.now (omega (arith, entries-length a.tree.now a.from a.n, c.requires.1))

pub bounds-table-at : goal.bounds-table-at
bounds-table-at c = let v = c.loop-i.invariant in omega (arith, copied-length v, c.requires.1)

pub loop-i-preserved : goal.loop-i-preserved
loop-i-preserved c = let a = c.args in copied_more c.loop-i.invariant _ (omega (arith, entries-length a.tree.now a.from a.n)) (c.entry_or.ensures ∙ sym (entries_at a.tree.now a.from a.n c.loop-i.i c.loop-i-test.true))

pub shape_of-table : goal.shape_of-table
shape_of-table c = copied-length c.loop-i.invariant

pub returns : goal.returns
returns c = let a = c.args in copied_all c.loop-i.invariant (omega (arith, entries-length a.tree.now a.from a.n))
