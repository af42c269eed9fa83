-- `BitsetIter::next` meets its contract. The invariant: the set keeps its four words, and what is left is what was left at the start. A word with nothing ahead
-- is passed over (`ahead_none`), and else its lowest bit says the next member (`ahead-some`). The measure is what is left of the numbers.
use Prim.Native.Nat.{◌-◌}
use mathlib.Core.Path.{◌≡◌}
use lib.ListN.{length}
use Rattle.bitset.specs.Iter.{left}
use Rattle.bitset.proofs.BitsetIterIterator.next.Given as goal

abbrev pub invariant-loop-self : goal.invariant-loop-self
invariant-loop-self l = (length l.self.set.words ≡ 4) × (left l.self ≡ left l.initial.self)

abbrev pub decreases-loop-self : goal.decreases-loop-self
decreases-loop-self l = 256 - l.self.at
