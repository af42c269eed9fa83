-- `seats::marks::find_marked` meets its contract: the search over the rows is the library's.
use mathlib.Core.Path.{◌≡◌}
use mathlib.Core.Bool.{true, false}
use Rattle.std.proofs.Common.{rules}
use Rattle.std.proofs.lemmas.Iterator.{first_from_Range}
use Rattle.machine.specs.Apply.{is_marked}
use Rattle.seats.specs.Marks.{row_mark}
use Rattle.seats.proofs.Marking.{first-marked}
use Rattle.seats.proofs.marks.find_marked.Goals as goal

pub returns : goal.returns
returns c =
    let a = c.args in
    first-marked
    (first_from_Range _ _ _ _ (λ k. is_marked a.label.now (row_mark a.text.now a.stack.now k) ≡ true)
    (λ k. is_marked a.label.now (row_mark a.text.now a.stack.now k) ≡ false) c.find.ensures.ran
    (λ x q k. search rules)
    (λ x q k. (search rules, search rules)))
