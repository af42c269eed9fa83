-- `answers::place_in` meets its contract: the place is read as the definition reads it.
use Rattle.answers.specs.Packed.{place_in}
use borrow.Author.Rules.{rules}
use Rattle.answers.proofs.place_in.Goals as goal

pub returns : goal.returns
unfolding place_in
returns c = search rules
