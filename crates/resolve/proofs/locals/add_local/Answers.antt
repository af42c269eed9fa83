-- `resolve::locals::add_local` meets its contract: three stores past the last label (`local-added`).
use Rattle.resolve.proofs.Placing.{local-added}
use lib.ListN.{length-set}
use native.Mathlib.Omega.{arith}
use Rattle.resolve.proofs.locals.add_local.Goals as goal

pub bounds-locals-count-2 : goal.bounds-locals-count-2
bounds-locals-count-2 c = simp length-set (omega arith)

pub bounds-locals-count-3 : goal.bounds-locals-count-3
bounds-locals-count-3 c = simp (length-set, length-set) (omega arith)

pub returns : goal.returns
returns c = let a = c.args in local-added a.locals.now a.count a.from a.to a.place (omega arith)
