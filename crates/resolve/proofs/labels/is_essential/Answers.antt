-- `resolve::labels::is_essential` meets its contract: its kind is 3.
use Rattle.frames.specs.Logic.{equal}
use Rattle.machine.specs.Ground.{is_essential}
use Rattle.resolve.proofs.labels.is_essential.Goals as goal

pub returns : goal.returns
unfolding is_essential equal
returns c = cc
