-- `added` meets its contract by the laws of membership: `insert-same` below the size, `past-size` past it. How many words a set has
-- is not asked.
use mathlib.Core.Path.{ap, ◌∙◌}
use mathlib.Core.List.{List}
use Prim.Native.Nat.{ℕ}
use native.Mathlib.Omega.{arith}
use Rattle.bitset.specs.Sets.{member}
use Rattle.bitset.proofs.Laws.{insert-same, past-size}
use Rattle.bitset_try.proofs.added.Goals as goal

pub returns : goal.returns
returns c =
    let old = c.set_bit-more.ensures.words.sized in
    let new = c.has_bit.ensures.words.sized in
    let n = c.args.n in
    record { below = λ l. c.has_bit.ensures.tells ∙ ap (λ (ws : List ℕ). member ws n) c.set_bit-more.ensures.adds.is ∙ insert-same c.args.set.words n (omega arith); past = (λ l. c.has_bit.ensures.tells ∙ past-size c.set_bit-more.result.words n (omega arith)) }
