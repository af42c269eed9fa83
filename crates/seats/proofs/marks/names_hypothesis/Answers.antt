-- `seats::marks::names_hypothesis` meets its contract: a label of the list is the mark, or none is (`names-told`).
use mathlib.Core.Path.{◌≡◌, refl}
use mathlib.Core.Bool.{true, false}
use lib.ListN.{get_or}
use Rattle.std.proofs.Common.{rules}
use Rattle.std.proofs.lemmas.Iterator.{cases_from_any, YieldsList-from_range}
use Rattle.frames.specs.Logic.{same}
use Rattle.frames.specs.Database.{statement_at}
use Rattle.seats.proofs.Marking.{names-told}
use Rattle.seats.proofs.marks.names_hypothesis.Goals as goal

pub returns : goal.returns
returns c =
    let a = c.args in
    names-told a.file.now a.statements.now a.at a.mark.now _ c.hypotheses.ensures.0 _
    (cases_from_any _ _ _ (λ i. same a.mark.now (statement_at a.file.now (get_or a.statements.now (get_or (statement_at a.file.now a.at).hyps i 0) 0)).label ≡ true)
    (λ i. same a.mark.now (statement_at a.file.now (get_or a.statements.now (get_or (statement_at a.file.now a.at).hyps i 0) 0)).label ≡ false)
    c.any.ensures.ran (YieldsList-from_range 0 _ _ refl refl)
    (λ x q k. search rules)
    (λ x q k. (search rules, search rules)))
