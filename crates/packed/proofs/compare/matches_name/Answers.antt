-- `packed::compare::matches_name` meets its contract: one byte is compared, or the last one, marked, and those before it (`same-ended`).
use mathlib.Core.Path.{◌∙◌}
use Rattle.frames.specs.Logic.{equal}
use Rattle.frames.proofs.Chains.{both_first, both-second, equal-yes, equal-no}
use Rattle.frames.proofs.Words.{pointwise-same}
use Rattle.packed.specs.Pool.{range}
use Rattle.packed.proofs.Comparing.{same-ended, same_nothing}
use Rattle.packed.proofs.compare.matches_name.Goals as goal

pub returns-in_default : goal.returns-in_default
returns-in_default c = let a = c.args in same_nothing a.name.now a.at a.pool.now c.in_default.ensures.cases

pub returns-then-last-pool : goal.returns-then-last-pool
unfolding range
returns-then-last-pool c =
    let a = c.args in
    let cut = c.in-Some.ensures.cases in
    same-ended c.in-Some.front.now c.in-Some.last.now a.at a.pool.now cut.0 cut.1 c.requires
    (both-second (equal-yes c.if-last-pool.true) (c.eq.ensures ∙ pointwise-same _ _))

pub returns-else-last-pool : goal.returns-else-last-pool
unfolding equal
returns-else-last-pool c =
    let a = c.args in
    let cut = c.in-Some.ensures.cases in
    same-ended c.in-Some.front.now c.in-Some.last.now a.at a.pool.now cut.0 cut.1 c.requires (both_first _ (equal-no c.if-last-pool.false) (equal-no c.if-last-pool.false))
