-- `spell::words::push_words` meets its contract: nothing is put, or the words of the application (`pushes-entries`).
use Rattle.spell.proofs.Tables.{even-below, pushes-none, pushes-no-entries, pushes-entries}
use native.Mathlib.Omega.{arith}
use Rattle.spell.proofs.words.push_words.Goals as goal

pub returns-then-word-eq0 : goal.returns-then-word-eq0
returns-then-word-eq0 c = let a = c.args in pushes-none a.depth a.pending.now (even-below a.file.now a.tree.now a.word c.if-word-eq0.true) c.requires

pub returns-then-pending-depth : goal.returns-then-pending-depth
returns-then-pending-depth c = let a = c.args in pushes-no-entries a.file.now a.tree.now a.word c.offset_of.result c.hypotheses-n.result a.depth a.pending.now c.if-word-eq0.false c.offset_of.ensures c.hypotheses-n.ensures.0 (omega arith)

pub returns : goal.returns
returns c = let a = c.args in pushes-entries a.file.now a.tree.now a.word c.offset_of.result c.hypotheses-n.result a.depth a.pending.now c.if-word-eq0.false c.offset_of.ensures c.hypotheses-n.ensures.0 _ (omega (arith, c.if-pending-depth, c.requires)) c.put_words.ensures
