-- `walk::answer_all` meets its contract: after i statements the answers of their $p are laid (`SoFar`).
use Rattle.walk.proofs.SoFar.{so-far-none, so_far_more, so-far-done, so-far-size, ours_kept, room-kept}
use Rattle.resolve.proofs.Filing.{filed-length}
use Rattle.facts.proofs.GoodFacts.{good-facts}
use native.Mathlib.Omega.{arith}
use mathlib.Core.Path.{refl, ◌∙◌}
use Rattle.walk.proofs.answer_all.Goals as goal

pub loop-i-init : goal.loop-i-init
loop-i-init c = (so-far-none _ _ _, record { table_same = refl; seats_same = refl; froms_same = refl; tos_same = refl; sets_same = refl; numbers_same = refl; pool_same = refl; stack_same = refl; places_same = refl; locals_same = refl })

pub answer_next-count-requires : goal.answer_next-count-requires
answer_next-count-requires c = let few = (good-facts _ c.requires.filed.good).statement_count in let l = filed-length c.requires.filed in record { labelled = c.requires.labelled; filed = c.requires.filed; ours = ours_kept c.loop-i.invariant.1 c.requires.ours; few = (c.loop-i-test.true, omega (arith, c.loop-i.invariant.0.few, c.loop-i-test.true)) }

pub loop-i-preserved : goal.loop-i-preserved
loop-i-preserved c = (so_far_more c.loop-i.invariant.0 (let l = filed-length c.requires.filed in omega (arith, c.loop-i-test.true)) (rw (room-kept c.loop-i.invariant.1) at c.answer_next-count.ensures), record { table_same = c.table-1.given ∙ c.loop-i.invariant.1.table_same; seats_same = c.seats-1.given ∙ c.loop-i.invariant.1.seats_same; froms_same = c.froms-1.given ∙ c.loop-i.invariant.1.froms_same; tos_same = c.tos-1.given ∙ c.loop-i.invariant.1.tos_same; sets_same = c.sets-1.given ∙ c.loop-i.invariant.1.sets_same; numbers_same = c.numbers-1.given ∙ c.loop-i.invariant.1.numbers_same; pool_same = c.pool-1.given ∙ c.loop-i.invariant.1.pool_same; stack_same = c.stack-1.given ∙ c.loop-i.invariant.1.stack_same; places_same = c.places-1.given ∙ c.loop-i.invariant.1.places_same; locals_same = c.locals-1.given ∙ c.loop-i.invariant.1.locals_same })

pub shape_of-table : goal.shape_of-table
shape_of-table c = c.loop-i.invariant.1.table_same

pub shape_of-seats : goal.shape_of-seats
shape_of-seats c = c.loop-i.invariant.1.seats_same

pub shape_of-froms : goal.shape_of-froms
shape_of-froms c = c.loop-i.invariant.1.froms_same

pub shape_of-tos : goal.shape_of-tos
shape_of-tos c = c.loop-i.invariant.1.tos_same

pub shape_of-sets : goal.shape_of-sets
shape_of-sets c = c.loop-i.invariant.1.sets_same

pub shape_of-numbers : goal.shape_of-numbers
shape_of-numbers c = c.loop-i.invariant.1.numbers_same

pub shape_of-pool : goal.shape_of-pool
shape_of-pool c = c.loop-i.invariant.1.pool_same

pub shape_of-stack : goal.shape_of-stack
shape_of-stack c = c.loop-i.invariant.1.stack_same

pub shape_of-places : goal.shape_of-places
shape_of-places c = c.loop-i.invariant.1.places_same

pub shape_of-locals : goal.shape_of-locals
shape_of-locals c = c.loop-i.invariant.1.locals_same

pub shape_of-answers : goal.shape_of-answers
shape_of-answers c = so-far-size c.loop-i.invariant.0

pub returns : goal.returns
returns c = so-far-done c.loop-i.invariant.0 (let l = filed-length c.requires.filed in omega (arith, c.loop-i-test.false))
