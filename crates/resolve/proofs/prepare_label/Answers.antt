-- `resolve::prepare_label` meets its contract: the statement that is found, or 25 (`label-named`, `label-missing`).
use Rattle.std.proofs.Common.{◌≡◌, Some, None, arith}
use Rattle.std.proofs.lemmas.Result.{err_from_is_err_and}
use Rattle.machine.specs.declared.Refusal.{Refusal}
use Rattle.machine.specs.declared.Refusal.TheVariants.{StepMissing}
use Rattle.resolve.proofs.Resolving.{label-missing, label-named}
use Rattle.resolve.proofs.prepare_label.Goals as goal

pub find_label-requires : goal.find_label-requires
find_label-requires c = c.requires

pub returns : goal.returns
returns c = let w : c.find_label.result ≡ Some c.in_ok-s.s = grind arith in label-named c.find_label.ensures w c.prepare_statement.ensures

pub returns-in_err-s : goal.returns-in_err-s
returns-in_err-s c =
    let w : c.find_label.result ≡ None = grind (arith, c.in_err-s.was) in
    let e : c.in_err-s.field-0.0 ≡ StepMissing = grind (arith, c.in_err-s.was) in
    let p = err_from_is_err_and c.from_residual.result c.from_residual.ensures.1 in
    rw (p.1, p.2, e) (label-missing c.find_label.ensures w)
