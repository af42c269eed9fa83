-- `resolve::prepare_local` meets its contract: 28, the place that is found, or 25 (`local-given`, `local-there`, `local-missing`).
use Rattle.std.proofs.Common.{◌≡◌, Some, None, arith}
use Rattle.std.proofs.lemmas.Result.{err_from_is_err_and}
use Rattle.machine.specs.declared.Refusal.TheVariants.{StepMissing}
use Rattle.resolve.proofs.Resolving.{local-given, local-missing, local-there}
use Rattle.resolve.proofs.prepare_local.Goals as goal

pub returns-then-given : goal.returns-then-given
returns-then-given c = let a = c.args in local-given a.given a.label.now a.text.now a.locals.now a.count c.if-given.true

pub returns : goal.returns
returns c =
    let a = c.args in
    let w : c.find_local.result ≡ Some c.in_ok-k.k = grind arith in
    local-there a.given a.label.now a.text.now a.locals.now a.count c.if-given.false c.find_local.ensures w

pub returns-in_err-k : goal.returns-in_err-k
returns-in_err-k c =
    let a = c.args in
    let w : c.find_local.result ≡ None = grind (arith, c.in_err-k.was) in
    let e : c.in_err-k.field-0.0 ≡ StepMissing = grind (arith, c.in_err-k.was) in
    let p = err_from_is_err_and c.from_residual.result c.from_residual.ensures.1 in
    rw (p.1, p.2, e) (local-missing a.given a.label.now a.text.now a.locals.now a.count c.if-given.false c.find_local.ensures w)
