-- `insert` meets its contract: the store is what the definition says, and past the words nothing is stored.
use mathlib.Core.Path.{sym, ap}
use Prim.Native.Nat.{ℕ, ◌/◌}
use native.Mathlib.Omega.{arith}
use lib.Bits.{bit_or}
use lib.ListN.{get_or, set}
use Rattle.bitset.specs.Sets.{size, insert}
use Rattle.bitset.proofs.Laws.{insert-refused}
use Rattle.bitset.proofs.insert.Goals as goal

pub returns-then-word-words : goal.returns-then-word-words
unfolding insert
returns-then-word-words c =
    let a = c.args in
    ap (λ (m : ℕ). set a.words.now (a.n / 64) (bit_or (get_or a.words.now (a.n / 64) 0) m)) c.mask.ensures

pub returns-else-word-words : goal.returns-else-word-words
unfolding size
returns-else-word-words c = sym (insert-refused c.args.words.now c.args.n (omega arith))
