-- `engine::roster::preload` meets its contract: after i hypotheses what is left is what the whole is (`Preloading`).
use Rattle.std.proofs.lemmas.Result.{err_from_is_err_and}
use Prim.Native.Nat.{◌-◌}
use Rattle.engine.proofs.Rostering.{preload-done, preload-more, preload-none, preload-stop}
use borrow.Author.Rules.{rules}
use Rattle.engine.proofs.roster.preload.Goals as goal

pub loop-i-init : goal.loop-i-init
loop-i-init c = preload-none c.requires.bounded.0

pub loop-i-preserved : goal.loop-i-preserved
loop-i-preserved c = preload-more c.loop-i.invariant (let t = c.loop-i-test.true in rw c.hypotheses-n.ensures.0 at t) c.place_hypothesis.ensures c.hypothesis.ensures c.statement_offset-o.ensures c.in_ok-now.was (search rules) (search rules) (search rules)

pub returns-in_err-now : goal.returns-in_err-now
returns-in_err-now c =
    let p = err_from_is_err_and c.from_residual.result c.from_residual.ensures.1 in rw (p.1, p.2)
    (preload-stop c.loop-i.invariant (let t = c.loop-i-test.true in rw c.hypotheses-n.ensures.0 at t) c.place_hypothesis.ensures c.hypothesis.ensures c.statement_offset-o.ensures c.in_err-now.was)

pub returns : goal.returns
returns c = preload-done c.loop-i.invariant (let t = c.loop-i-test.false in rw c.hypotheses-n.ensures.0 at t)
