-- `lines::put_label` meets its contract: the label, a space, the number and a space, one after another.
use Rattle.lines.proofs.put_label.Goals as goal

pub returns : goal.returns
returns c = c.then_text.ensures.adds _ _ _ (c.then_number-digits.ensures.adds _ _ _ (c.then_text-space.ensures.adds _ _ _ c.add_text-name.ensures))
