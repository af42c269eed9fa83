-- `resolve::labels::find_named` meets its contract: the one that is found, if it is no $e (`named-found`, `named-essential`, `named-absent`).
use Rattle.resolve.proofs.Naming.{named-absent, named-essential, named-found}
use mathlib.Core.Path.{◌∙◌, sym}
use Rattle.resolve.proofs.labels.find_named.Goals as goal

pub find_labelled-requires : goal.find_labelled-requires
find_labelled-requires c = c.requires

pub returns-then-is_essential : goal.returns-then-is_essential
returns-then-is_essential c = let a = c.args in named-essential a.file.now a.statements.now a.label.now c.in_ok-s.was c.find_labelled.ensures (sym c.is_essential.ensures ∙ c.if-is_essential.true)

pub returns : goal.returns
returns c = let a = c.args in named-found a.file.now a.statements.now a.label.now c.in_ok-s.was c.find_labelled.ensures (sym c.is_essential.ensures ∙ c.if-is_essential.false)

pub returns-in_err-s : goal.returns-in_err-s
returns-in_err-s c =
    rw c.from_residual.ensures
    (let a = c.args in named-absent a.file.now a.statements.now a.label.now c.in_err-s.was c.find_labelled.ensures)
