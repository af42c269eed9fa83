-- `engine::ready::place_hypothesis` meets its contract: what was prepared is shown, and then a place more (`places-added`).
use Rattle.std.proofs.lemmas.Result.{err_from_is_err_and}
use mathlib.Core.Path.{refl}
use Rattle.engine.proofs.Readying.{places-added, places-refused}
use Rattle.engine.proofs.ready.place_hypothesis.Goals as goal

pub returns-in_err-ready : goal.returns-in_err-ready
returns-in_err-ready c =
    let p = err_from_is_err_and c.from_residual.result c.from_residual.ensures.1 in rw (p.1, p.2)
    (places-refused (rw c.in_err-ready.was at c.prepare_hypothesis.ensures) c.args.places.now)

pub returns : goal.returns
returns c =
    let prep = rw c.in_ok-ready.was at c.prepare_hypothesis.ensures in
    let bounds = prep.bounds _ _ refl in
    places-added prep bounds.0 bounds.1.0 bounds.1.1 prep.pool_sized c.leaf_row-row.ensures refl c.requires.places.0 c.add_place.ensures
