-- `resolve::locals::find_local` meets its contract: none so far is the same (`PlaceSoFar`).
use Rattle.resolve.proofs.Placing.{PlaceSoFar}
use Rattle.resolve.specs.Locals.{locals_of}
use Rattle.resolve.proofs.locals.find_local.Given as goal

abbrev pub invariant-loop-i : goal.invariant-loop-i
invariant-loop-i l = PlaceSoFar l.label (locals_of l.text l.locals l.count) l.i
