-- `seats::marks::none_marked` meets its contract: every row of the range is without a mark (`all-rows`).
use mathlib.Core.Path.{◌≡◌, refl}
use Rattle.std.proofs.Common.{rules, tests, arith}
use Rattle.std.proofs.lemmas.Iterator.{cases_from_all, YieldsList-from_range}
use Rattle.memory.specs.Table.{word}
use Rattle.seats.proofs.Marking.{none-told}
use Rattle.seats.proofs.marks.none_marked.Goals as goal

pub returns : goal.returns
unfolding word
returns c =
    let a = c.args in
    none-told a.stack.now a.from a.to _
    (cases_from_all _ _ _ (λ k. word a.stack.now k 3 ≡ 0) (λ k. Unit {0}) c.all.ensures.ran (YieldsList-from_range a.from a.to _ refl refl)
    (λ x q k. (search rules, grind (arith, tests)))
    (λ x q k. tt))
