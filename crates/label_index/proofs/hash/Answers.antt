-- `label_index::hash` meets its contract. The invariant: what is left of the label takes the hash so far on to the whole hash (`HashedTo`).
use Rattle.frames.proofs.Loops.{here-list}
use Rattle.label_index.proofs.Chain.{hashed-none, hashed-more, hashed-all}
use native.Mathlib.Omega.{arith}
use Rattle.label_index.proofs.hash.Goals as goal

pub loop-b-init : goal.loop-b-init
loop-b-init c = hashed-none c.args.label.now

pub loop-b-preserved : goal.loop-b-preserved
loop-b-preserved c = hashed-more c.loop-b.invariant (here-list c.args.label.now c.loop-b.b-index 0 (omega arith))

pub returns : goal.returns
returns c = (hashed-all c.loop-b.invariant (omega arith), c.loop-b.invariant.small)
