-- `clearing::clear` meets its contract.
use native.Mathlib.Omega.{arith}
use Rattle.clearing.proofs.Clearing.{one-more-at}
use Rattle.clearing.proofs.clear.Goals as goal

pub loop-i-preserved : goal.loop-i-preserved
loop-i-preserved g c = one-more-at c.loop-i.i _ c.args.zero c.args.lent.now c.loop-i-test.true c.loop-i.invariant (omega arith)
