-- `put_named` meets its contract: the word is put where the label ends.
use Rattle.long_lines.proofs.put_named.Goals as goal

pub returns : goal.returns
returns c = c.then_text.ensures.adds _ _ _ c.add_text-name.ensures
