-- `lines::put_refused` meets its contract: the word, and then the line ends with two numbers.
use Rattle.lines.proofs.put_refused.Goals as goal

pub returns : goal.returns
returns c = c.then_two.ensures.adds _ _ _ c.add_text-word.ensures
