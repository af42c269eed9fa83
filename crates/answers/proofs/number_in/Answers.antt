-- `answers::number_in` meets its contract: the number is read as the definition reads it.
use Rattle.answers.specs.Packed.{number_in}
use borrow.Author.Rules.{rules}
use Rattle.answers.proofs.number_in.Goals as goal

pub returns : goal.returns
unfolding number_in
returns c = search rules
