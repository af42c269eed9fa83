-- `answers::steps_in` meets its contract: the steps is read as the definition reads it.
use Rattle.answers.specs.Packed.{steps_in}
use borrow.Author.Rules.{rules}
use Rattle.answers.proofs.steps_in.Goals as goal

pub returns : goal.returns
unfolding steps_in
returns c = search rules
