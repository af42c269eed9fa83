-- `put_refusal` meets its contract: the label and the word, three numbers and LF, one after another.
use Rattle.long_lines.proofs.put_refusal.Goals as goal

pub returns : goal.returns
returns c = c.then_two.ensures.adds _ _ _ (c.then_text-space.ensures.adds _ _ _ (c.then_number-digits.ensures.adds _ _ _ c.put_named-name.ensures))
