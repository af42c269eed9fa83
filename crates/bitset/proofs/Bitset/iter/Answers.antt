-- `Bitset::iter` meets its contract: from 0 on all members are still to come.
use mathlib.Core.Path.{ap}
use Prim.Native.Nat.{ℕ}
use native.Mathlib.Nat.{sub-zero}
use borrow.Author.Rules.{rules}
use Rattle.bitset.specs.Sets.{size, members_from, members}
use Rattle.bitset.specs.Iter.{left}
use Rattle.bitset.proofs.Laws.{array-words}
use Rattle.bitset.proofs.Bitset.iter.Goals as goal

pub returns : goal.returns
unfolding left members
returns c =
    record { starts = ap (λ (k : ℕ). members_from c.args.self.words k 0) (sub-zero (size c.args.self.words)); words = array-words 4 c.args.self.words (search rules) (λ i. search rules) }
