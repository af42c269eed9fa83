-- `run_bytes::read_text` meets its contract: after i bytes the code stands where the definition stands (`SoFar`).
use Rattle.std.proofs.lemmas.Result.{err_from_is_err_and}
use mathlib.Core.Path.{refl, ◌∙◌}
use Prim.Native.Nat.{◌-◌}
use Rattle.run_bytes.proofs.Looping.{so-far-done, so_far_more, so-far-none, so-far-over}
use borrow.Author.Rules.{rules}
use native.Mathlib.Omega.{arith}
use Rattle.run_bytes.proofs.read_text.Goals as goal

pub loop-i-init : goal.loop-i-init
loop-i-init c = so-far-none c.requires.running c.requires.low.0.0 c.requires.low.0.1 c.requires.low.1

pub on_byte-requires : goal.on_byte-requires
on_byte-requires c = let v = c.loop-i.invariant in let f = v.running.checked.text_few in record { labelled = c.requires.labelled; running = v.running; low = ((v.low, omega (arith, v.few, v.within)), (v.begun, c.loop-i-test.true)) }

pub shape_of-seats-in_err-s : goal.shape_of-seats-in_err-s
shape_of-seats-in_err-s c = c.seats-1.given ∙ c.loop-i.invariant.sizes.seats

pub shape_of-froms-in_err-s : goal.shape_of-froms-in_err-s
shape_of-froms-in_err-s c = c.froms-1.given ∙ c.loop-i.invariant.sizes.froms

pub shape_of-tos-in_err-s : goal.shape_of-tos-in_err-s
shape_of-tos-in_err-s c = c.tos-1.given ∙ c.loop-i.invariant.sizes.tos

pub shape_of-sets-in_err-s : goal.shape_of-sets-in_err-s
shape_of-sets-in_err-s c = c.sets-1.given ∙ c.loop-i.invariant.sizes.sets

pub shape_of-numbers-in_err-s : goal.shape_of-numbers-in_err-s
shape_of-numbers-in_err-s c = c.numbers-1.given ∙ c.loop-i.invariant.sizes.numbers

pub shape_of-pool-in_err-s : goal.shape_of-pool-in_err-s
shape_of-pool-in_err-s c = c.pool-1.given ∙ c.loop-i.invariant.sizes.pool

pub shape_of-stack-in_err-s : goal.shape_of-stack-in_err-s
shape_of-stack-in_err-s c = c.stack-1.given ∙ c.loop-i.invariant.sizes.stack

pub shape_of-places-in_err-s : goal.shape_of-places-in_err-s
shape_of-places-in_err-s c = c.places-1.given ∙ c.loop-i.invariant.sizes.places

pub shape_of-locals-in_err-s : goal.shape_of-locals-in_err-s
shape_of-locals-in_err-s c = c.locals-1.given ∙ c.loop-i.invariant.sizes.locals

pub returns-in_err-s : goal.returns-in_err-s
returns-in_err-s c =
    let p = err_from_is_err_and c.from_residual.result c.from_residual.ensures.1 in rw (p.1, p.2)
    (so-far-over c.loop-i.invariant c.loop-i-test.true refl (rw c.in_err-s.was at c.on_byte.ensures))

pub loop-i-smaller : goal.loop-i-smaller
loop-i-smaller c = search (rules, c.loop-i-test.true)

pub loop-i-preserved : goal.loop-i-preserved
loop-i-preserved c = so_far_more c.loop-i.invariant c.loop-i-test.true refl (record { seats = c.seats-1.given; froms = c.froms-1.given; tos = c.tos-1.given; sets = c.sets-1.given; numbers = c.numbers-1.given; pool = c.pool-1.given; stack = c.stack-1.given; places = c.places-1.given; locals = c.locals-1.given; tree = c.tree-1.given }) (rw c.in_ok-s.was at c.on_byte.ensures)

pub shape_of-tree-in_err-s : goal.shape_of-tree-in_err-s
shape_of-tree-in_err-s c = c.tree-1.given ∙ c.loop-i.invariant.sizes.tree

pub shape_of-seats : goal.shape_of-seats
shape_of-seats c = c.loop-i.invariant.sizes.seats

pub shape_of-froms : goal.shape_of-froms
shape_of-froms c = c.loop-i.invariant.sizes.froms

pub shape_of-tos : goal.shape_of-tos
shape_of-tos c = c.loop-i.invariant.sizes.tos

pub shape_of-sets : goal.shape_of-sets
shape_of-sets c = c.loop-i.invariant.sizes.sets

pub shape_of-numbers : goal.shape_of-numbers
shape_of-numbers c = c.loop-i.invariant.sizes.numbers

pub shape_of-pool : goal.shape_of-pool
shape_of-pool c = c.loop-i.invariant.sizes.pool

pub shape_of-stack : goal.shape_of-stack
shape_of-stack c = c.loop-i.invariant.sizes.stack

pub shape_of-places : goal.shape_of-places
shape_of-places c = c.loop-i.invariant.sizes.places

pub shape_of-locals : goal.shape_of-locals
shape_of-locals c = c.loop-i.invariant.sizes.locals

pub shape_of-tree : goal.shape_of-tree
shape_of-tree c = c.loop-i.invariant.sizes.tree

pub returns : goal.returns
returns c = so-far-done c.loop-i.invariant c.loop-i-test.false
