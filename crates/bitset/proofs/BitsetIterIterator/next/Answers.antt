-- `BitsetIter::next` meets its contract. The invariant: the set keeps its four words, and what is left is what was left at the start. A word with nothing ahead
-- is passed over (`ahead_none`), and else its lowest bit says the next member (`ahead-some`). The measure is what is left of the numbers.
use mathlib.Core.Path.{sym, ◌∙◌}
use native.Mathlib.Omega.{arith}
use borrow.Author.Rules.{rules}
use Rattle.bitset.specs.Sets.{size, Words}
use Rattle.bitset.specs.Iter.{left}
use Rattle.bitset.proofs.Laws.{array-words}
use Rattle.bitset.proofs.Listed.{from_end}
use Rattle.bitset.proofs.Ahead.{ahead, coming, ahead_none, ahead-some}
use Rattle.bitset.proofs.BitsetIterIterator.next.Goals as goal

pub returns-then-ahead-ne0 : goal.returns-then-ahead-ne0
unfolding left ahead coming
returns-then-ahead-ne0 c =
    let l = c.loop-self in
    let w : Words 256 l.self.set.words = array-words 4 l.self.set.words l.invariant.0 (λ i. search rules) in
    let steps = sym l.invariant.1 ∙ ahead-some l.self.at w c.if-ahead-ne0.true in
    record { steps = steps; goes = search (rules, steps) }

pub loop-self-preserved : goal.loop-self-preserved
unfolding left ahead
loop-self-preserved c =
    let l = c.loop-self in
    let s = (array-words 4 l.self.set.words l.invariant.0 (λ i. search rules)).sized in
    (l.invariant.0, sym (ahead_none l.self.set.words l.self.at (omega arith) c.if-ahead-ne0.false) ∙ l.invariant.1)

pub returns-clause-steps : goal.returns-clause-steps
unfolding left size
returns-clause-steps c =
    let l = c.loop-self in
    let sized = l.invariant.0 in
    let e = from_end l.self.set.words l.self.at (omega arith) in
    (sym l.invariant.1 ∙ e, e)
