-- `lines::put_answer` meets its contract: the label and the number, and then the line ends with two numbers.
use Rattle.lines.proofs.put_answer.Goals as goal

pub returns : goal.returns
returns c = c.then_two.ensures.adds _ _ _ c.put_label-begun.ensures
