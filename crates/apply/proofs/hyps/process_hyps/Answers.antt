-- `apply::hyps::process_hyps` meets its contract: after j hypotheses the tests that are left are those of the whole (`Processing`).
use Rattle.std.proofs.lemmas.Result.{err_from_is_err_and}
use Rattle.apply.proofs.OneHyp.{ranged-more}
use mathlib.Core.Path.{◌∙◌}
use Prim.Native.Nat.{◌-◌}
use Rattle.apply.proofs.Processing.{processing-done, processing-more, processing-none, processing-stop}
use native.Mathlib.Omega.{arith}
use Rattle.apply.proofs.hyps.process_hyps.Goals as goal

pub loop-j-init : goal.loop-j-init
loop-j-init c = let a = c.args in processing-none a.froms.now a.tos.now a.sets.now a.pool.now c.requires.1.0

pub process_hyp-requires : goal.process_hyp-requires
process_hyp-requires c = let v = c.loop-j.invariant in ((c.seat_row-row.ensures.rises, (omega (arith, c.seat_row-row.ensures.within), omega (arith, c.seat_row-row.ensures.within))), (ranged-more c.requires.0.0 v.ranged, omega (arith, v.froms_sized, v.tos_sized)))

pub loop-j-preserved : goal.loop-j-preserved
loop-j-preserved c = processing-more c.loop-j.invariant (let t = c.loop-j-test.true in rw c.hypotheses-n.ensures.0 at t) c.hypothesis.ensures c.statement_offset-o.ensures c.seat_row-row.ensures c.process_hyp.ensures c.in_ok-process_hyp.was

pub shape_of-froms-in_err-process_hyp : goal.shape_of-froms-in_err-process_hyp
shape_of-froms-in_err-process_hyp c = c.process_hyp.ensures.froms_sized ∙ c.loop-j.invariant.froms_sized

pub shape_of-tos-in_err-process_hyp : goal.shape_of-tos-in_err-process_hyp
shape_of-tos-in_err-process_hyp c = c.process_hyp.ensures.tos_sized ∙ c.loop-j.invariant.tos_sized

pub shape_of-sets-in_err-process_hyp : goal.shape_of-sets-in_err-process_hyp
shape_of-sets-in_err-process_hyp c = c.process_hyp.ensures.sets_sized ∙ c.loop-j.invariant.sets_sized

pub returns-in_err-process_hyp : goal.returns-in_err-process_hyp
returns-in_err-process_hyp c =
    let p = err_from_is_err_and c.from_residual.result c.from_residual.ensures.1 in rw (p.1, p.2)
    (processing-stop c.loop-j.invariant (let t = c.loop-j-test.true in rw c.hypotheses-n.ensures.0 at t) c.hypothesis.ensures c.statement_offset-o.ensures c.seat_row-row.ensures c.process_hyp.ensures c.in_err-process_hyp.was)

pub shape_of-froms : goal.shape_of-froms
shape_of-froms c = c.loop-j.invariant.froms_sized

pub shape_of-tos : goal.shape_of-tos
shape_of-tos c = c.loop-j.invariant.tos_sized

pub shape_of-sets : goal.shape_of-sets
shape_of-sets c = c.loop-j.invariant.sets_sized

pub returns : goal.returns
returns c = processing-done c.loop-j.invariant (let t = c.loop-j-test.false in rw c.hypotheses-n.ensures.0 at t)
