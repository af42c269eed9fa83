-- `Bitset::new` meets its contract: a repeat of 0 is what `empty` says.
use Rattle.bitset.specs.Sets.{empty}
use Rattle.bitset.proofs.Promises.{empty-promise}
use borrow.Author.Rules.{rules}
use Rattle.bitset.proofs.Bitset.new.Goals as goal

pub returns : goal.returns
unfolding empty
returns c = empty-promise _ _ (search rules)
