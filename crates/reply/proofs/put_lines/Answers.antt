-- `reply::put_lines` meets its contract: the first line, and then those of the $p (`lines-whole`).
use Rattle.reply.proofs.SoFar.{lines-whole}
use Rattle.reply.proofs.put_lines.Goals as goal

pub returns : goal.returns
returns c = lines-whole _ c.requires.answered.1 c.put_checked-first.ensures c.then_answers.ensures
