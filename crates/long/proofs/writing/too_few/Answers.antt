-- `writing::too_few` meets its contract.
use Rattle.long.proofs.Accepting.{half-few}
use Rattle.frames.specs.Logic.{below}
use Rattle.long.proofs.writing.too_few.Goals as goal

pub returns : goal.returns
unfolding below
returns c = half-few c.args.lent c.args.steps
