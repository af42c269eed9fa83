-- `Bitset::set_bit` meets its contract: what it adds to the words is `insert` word for word (`added-promise`).
use borrow.Author.Rules.{rules}
use Rattle.bitset.proofs.Laws.{array-words}
use Rattle.bitset.proofs.Promises.{added-promise}
use Rattle.bitset.proofs.Bitset.set_bit.Goals as goal

pub returns : goal.returns
returns c = record { adds = added-promise _ _ _ c.insert.ensures; words = array-words 4 c.args.self.words (search rules) (λ i. search rules) }
