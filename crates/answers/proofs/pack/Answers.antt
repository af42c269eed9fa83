-- `answers::pack` meets its contract: the sum of the definition, which fits in 64 bits.
use Rattle.answers.specs.Packed.{packed_answer}
use borrow.Author.Rules.{rules}
use Rattle.answers.proofs.pack.Goals as goal

pub returns : goal.returns
unfolding packed_answer
returns c = search rules
