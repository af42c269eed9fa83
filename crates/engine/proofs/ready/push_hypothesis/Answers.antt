-- `engine::ready::push_hypothesis` meets its contract: what was prepared is shown, and then an entry more (`pushes-added`).
use Rattle.std.proofs.lemmas.Result.{err_from_is_err_and}
use mathlib.Core.Path.{refl}
use Rattle.engine.proofs.Readying.{pushes-added, pushes-refused}
use Rattle.engine.proofs.ready.push_hypothesis.Goals as goal

pub returns-in_err-ready : goal.returns-in_err-ready
returns-in_err-ready c =
    let p = err_from_is_err_and c.from_residual.result c.from_residual.ensures.1 in rw (p.1, p.2)
    (pushes-refused (rw c.in_err-ready.was at c.prepare_hypothesis.ensures) c.args.stack.now c.args.tag c.args.end)

pub returns : goal.returns
returns c =
    let prep = rw c.in_ok-ready.was at c.prepare_hypothesis.ensures in
    let bounds = prep.bounds _ _ refl in
    pushes-added prep bounds.0 bounds.1.0 bounds.1.1 prep.pool_sized c.leaf_row-leaf.ensures c.push.ensures
