-- `Bitset::has_bit` meets its contract: it reads the bit that `member` names, and past the size there is none.
use borrow.Author.Rules.{rules}
use mathlib.Core.Path.{sym}
use native.Mathlib.Omega.{arith}
use Rattle.bitset.specs.Sets.{member, bit}
use Rattle.bitset.proofs.Laws.{array-words, past-size}
use Rattle.bitset.proofs.Bitset.has_bit.Goals as goal

pub returns-then-bit-ge-BITS : goal.returns-then-bit-ge-BITS
returns-then-bit-ge-BITS c =
    let w = (array-words 4 c.args.self.words (search rules) (λ i. search rules)) in
    let s = w.sized in
    record { tells = sym (past-size c.args.self.words _ (omega arith)); words = w }

pub returns : goal.returns
unfolding member bit
returns c = record { tells = search rules; words = (array-words 4 c.args.self.words (search rules) (λ i. search rules)) }
