-- `resolve::locals::find_local` meets its contract: none so far is the same (`PlaceSoFar`).
use Prim.Native.Nat.{◌+◌, ◌-◌, ◌*◌}
use Rattle.resolve.proofs.Placing.{place_none, place-more, place-stop, place-done, here-local, locals-length}
use Rattle.resolve.specs.Locals.{local_at, locals_of, place_found}
use mathlib.Core.Option.{some}
use mathlib.Core.Path.{◌≡◌, ◌∙◌, ap}
use lib.ListN.{get_or}
use native.Mathlib.Omega.{arith}
use Rattle.resolve.proofs.locals.find_local.Goals as goal

pub loop-i-init : goal.loop-i-init
loop-i-init c = let a = c.args in place_none a.label.now (locals_of a.text.now a.locals.now a.count)

pub returns-then-same_bytes : goal.returns-then-same_bytes
unfolding place_found local_at
returns-then-same_bytes c =
    let a = c.args in
    let i = c.loop-i.i in
    let at_place : get_or a.locals.now (3 * i + 2) 0 ≡ c.entry.result = omega (arith, c.entry.ensures) in
    place-stop c.loop-i.invariant (here-local a.text.now a.locals.now a.count c.loop-i.i (omega arith)) (cc) ∙ ap some at_place

pub loop-i-preserved : goal.loop-i-preserved
loop-i-preserved c = let a = c.args in place-more c.loop-i.invariant (here-local a.text.now a.locals.now a.count c.loop-i.i (omega arith)) (cc)

pub returns : goal.returns
unfolding place_found
returns c = let a = c.args in let n = locals-length a.text.now a.locals.now a.count in place-done c.loop-i.invariant (omega arith)
