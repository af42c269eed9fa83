-- `lines::put_checked` meets its contract: the word, the number and LF, one after another.
use Rattle.lines.proofs.put_checked.Goals as goal

pub returns : goal.returns
returns c = c.then_text.ensures.adds _ _ _ (c.then_number-number.ensures.adds _ _ _ c.add_text-word.ensures)
