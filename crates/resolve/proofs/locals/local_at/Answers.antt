-- `resolve::locals::local_at` meets its contract: the two words are where it begins and ends.
use Rattle.resolve.specs.Locals.{local_at}
use Rattle.resolve.proofs.locals.local_at.Goals as goal

pub returns : goal.returns
unfolding local_at
returns c = cc
