-- `spell::text::put_label` meets its contract: a space, and the label behind it (`puts-label`).
use mathlib.Core.Path.{refl}
use Rattle.spell.proofs.Spacing.{puts_none, puts-label}
use native.Mathlib.Omega.{arith}
use Rattle.spell.proofs.text.put_label.Goals as goal

pub returns-then-end-n : goal.returns-then-end-n
returns-then-end-n c = let a = c.args in puts_none a.label.now a.end a.out.now c.if-end-n.true

pub returns : goal.returns
returns c = let a = c.args in rw c.put_text.ensures (puts-label a.label.now a.end _ a.out.now c.put_space.new.out refl (omega arith) c.requires c.put_space.ensures)
