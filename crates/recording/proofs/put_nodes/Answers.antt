use native.Mathlib.Omega.{arith}
use Rattle.recording.proofs.Noting.{puts-more, puts-fewer, seat-node}
use Rattle.recording.proofs.put_nodes.Goals as goal

pub loop-j-preserved : goal.loop-j-preserved
loop-j-preserved c = puts-more c.loop-j.invariant (omega (arith, c.loop-j.invariant.sized, c.requires.1, c.loop-j-test.true)) (let a = c.args in seat-node a.stack.now a.seats.now a.base _ c.loop-j.j c.entry_or.ensures c.entry-i.ensures)

pub returns : goal.returns
returns c = puts-fewer c.loop-j-test.false c.loop-j.invariant
