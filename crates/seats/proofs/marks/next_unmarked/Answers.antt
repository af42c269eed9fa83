-- `seats::marks::next_unmarked` meets its contract: the search over the rows is the library's.
use mathlib.Core.Path.{◌≡◌}
use Rattle.std.proofs.Common.{rules, tests, arith}
use Rattle.std.proofs.lemmas.Iterator.{first_from_Range}
use Rattle.memory.specs.Table.{word}
use Rattle.seats.proofs.Marking.{first-unmarked}
use Rattle.seats.proofs.marks.next_unmarked.Goals as goal

pub returns : goal.returns
unfolding word
returns c =
    let a = c.args in
    first-unmarked
    (first_from_Range _ _ _ _ (λ k. word a.stack.now k 3 ≡ 0) (λ k. word a.stack.now k 3 ≡ 0 → ⊥) c.find.ensures.ran
    (λ x q k. grind (arith, tests))
    (λ x q k. (search rules, grind (arith, tests))))
