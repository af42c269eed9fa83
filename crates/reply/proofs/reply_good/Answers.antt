-- `reply::reply_good` meets its contract: the walk has laid the answers to all $p (`walk-held`), and their lines are put.
use Rattle.reply.proofs.Whole.{walk-held, walk-counted}
use Rattle.reply.proofs.reply_good.Goals as goal

pub put_lines-requires : goal.put_lines-requires
put_lines-requires c = record { listed = c.requires; answered = (walk-held c.verify_all-walked.ensures c.requires.good c.pool_room-pool.ensures c.stack_room-stack.ensures c.places_room-places.ensures c.answers_room-answers.ensures, walk-counted c.verify_all-walked.ensures c.requires.good c.how_many.ensures) }

pub returns : goal.returns
returns c = c.put_lines.ensures
