-- `put_long` meets its contract: the label and the colon, the text and LF, one after another.
use Rattle.long_lines.proofs.put_long.Goals as goal

pub returns : goal.returns
returns c = c.then_text.ensures.adds _ _ _ (c.then_text-labels.ensures.adds _ _ _ c.put_named-name.ensures)
