-- `packed::pool::put_text` meets its contract: after i bytes the pool has the first i bytes of the text (`Copied`).
use Rattle.packed.proofs.Copies.{copied_all, copied-length, copied_more-at, copied_none}
use native.Mathlib.Omega.{arith}
use Rattle.packed.proofs.pool.put_text.Goals as goal

pub loop-i-init : goal.loop-i-init
loop-i-init c = let a = c.args in copied_none a.text.now a.at a.pool.now c.requires

pub bounds-pool-at : goal.bounds-pool-at
bounds-pool-at c = let v = c.loop-i.invariant in omega (arith, copied-length v, v.fits)

pub loop-i-preserved : goal.loop-i-preserved
loop-i-preserved c = copied_more-at c.loop-i.invariant _ _ (omega arith) (cc) (omega arith)

pub returns : goal.returns
returns c = copied_all c.loop-i.invariant (omega arith)
