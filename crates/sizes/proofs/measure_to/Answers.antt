-- `sizes::measure_to` meets its contract. The invariant: what is left of the pass takes the table so far on to the whole table (`Passed`). Each turn moves on.
use native.Mathlib.Omega.{arith}
use Rattle.sizes.proofs.Passing.{application-few, passed_none, passed-more, passed-all}
use Rattle.sizes.proofs.measure_to.Goals as goal

pub loop-at-init : goal.loop-at-init
loop-at-init c = passed_none c.args.file.now c.args.tree.now c.args.n c.args.sizes.now

pub measure_one-size-requires : goal.measure_one-size-requires
measure_one-size-requires c = omega (arith, c.loop-at.invariant.sized, c.requires)

pub overflow_cast-sizes : goal.overflow_cast-sizes
overflow_cast-sizes c = omega (arith, c.measure_one-size.ensures, application-few c.args.file.now c.args.tree.now c.loop-at.sizes c.loop-at.at)

pub offset_bounds-sizes-at : goal.offset_bounds-sizes-at
offset_bounds-sizes-at c = omega (arith, c.loop-at.invariant.sized, c.requires)

pub bounds-sizes-at : goal.bounds-sizes-at
bounds-sizes-at c = omega (arith, c.loop-at.invariant.sized, c.requires)

pub overflow_add-at : goal.overflow_add-at
overflow_add-at c = omega (arith, c.words_at.ensures.1)

pub overflow_add-at-in-loop-at : goal.overflow_add-at-in-loop-at
overflow_add-at-in-loop-at c = omega (arith, c.words_at.ensures.1, c.requires)

pub loop-at-smaller : goal.loop-at-smaller
loop-at-smaller c = omega arith

pub loop-at-preserved : goal.loop-at-preserved
loop-at-preserved c = passed-more c.args.file.now c.args.tree.now c.args.n c.loop-at.invariant (omega arith) c.measure_one-size.ensures c.words_at.ensures.0 (omega arith)

pub shape_of-sizes : goal.shape_of-sizes
shape_of-sizes c = c.loop-at.invariant.sized

pub returns : goal.returns
returns c = passed-all c.args.file.now c.args.tree.now c.args.n c.loop-at.invariant (omega arith)
