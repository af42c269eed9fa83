-- `reply::how_many` meets its contract: the number of the variant, and a file that is turned away is no answer.
use Rattle.reply.proofs.Whole.{counted}
use Rattle.reply.proofs.how_many.Goals as goal

pub returns : goal.returns
returns c = rw c.unwrap_or.ensures (counted _)
