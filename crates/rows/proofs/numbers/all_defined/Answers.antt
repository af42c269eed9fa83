-- `rows::numbers::all_defined` meets its contract: the loop stops at the first member that fails. The invariant: the test of what is left of the list is the test of the whole (`AllSoFar`).
use Rattle.frames.proofs.Chains.{below-no, below-yes}
use Rattle.frames.proofs.Loops.{all_done, all_more, all_none, all-stop, here-rows, length-rows}
use Rattle.frames.specs.Layout.{u16}
use Rattle.frames.specs.Logic.{rows}
use Rattle.frames.specs.Table.{defined}
use native.Mathlib.Omega.{arith}
use Rattle.rows.proofs.numbers.all_defined.Goals as goal

pub loop-i-init : goal.loop-i-init
loop-i-init c = let a = c.args in all_none (defined a.symbols.now) (rows (u16 a.file.now) 2 a.n a.from)

pub loop-i-preserved : goal.loop-i-preserved
unfolding defined
loop-i-preserved c = let a = c.args in all_more c.loop-i.invariant (here-rows (u16 a.file.now) 2 a.n a.from c.loop-i.i (omega arith)) (below-yes (omega arith))

pub returns-then-u16_at-symbols : goal.returns-then-u16_at-symbols
unfolding defined
returns-then-u16_at-symbols c = let a = c.args in all-stop c.loop-i.invariant (here-rows (u16 a.file.now) 2 a.n a.from c.loop-i.i (omega arith)) (below-no (omega arith))

pub returns : goal.returns
returns c = let a = c.args in all_done c.loop-i.invariant (omega (arith, length-rows (u16 a.file.now) 2 a.n a.from))
