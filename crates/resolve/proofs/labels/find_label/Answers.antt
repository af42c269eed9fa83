-- `resolve::labels::find_label` meets its contract: the one that is found, if it may be named (`label-found`, `label-refused`, `label-nowhere`).
use Rattle.resolve.proofs.Naming.{label-found, label-nowhere, label-refused}
use mathlib.Core.Path.{◌∙◌, sym}
use Rattle.resolve.proofs.labels.find_label.Goals as goal

pub find_labelled-requires : goal.find_labelled-requires
find_labelled-requires c = c.requires

pub returns-then-may_name : goal.returns-then-may_name
returns-then-may_name c = let a = c.args in label-found a.file.now a.statements.now a.label.now c.in_ok-s.was c.find_labelled.ensures a.p.0 (sym c.may_name.ensures ∙ c.if-may_name.true)

pub returns : goal.returns
returns c = let a = c.args in label-refused a.file.now a.statements.now a.label.now c.in_ok-s.was c.find_labelled.ensures a.p.0 (sym c.may_name.ensures ∙ c.if-may_name.false)

pub returns-in_err-s : goal.returns-in_err-s
returns-in_err-s c =
    rw c.from_residual.ensures
    (let a = c.args in label-nowhere a.file.now a.statements.now a.label.now c.in_err-s.was c.find_labelled.ensures a.p.0)
