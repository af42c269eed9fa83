-- `rows::framing::has_equal_pair` meets its contract: the loop stops at the first member that passes. The invariant: the test of what is left of the list is the test of the whole (`AnySoFar`).
use Rattle.frames.proofs.Chains.{equal-no, equal-yes}
use Rattle.frames.proofs.Loops.{any-done, any-more, any_none, any-stop, here-rows, length-rows}
use Rattle.frames.specs.Layout.{pair_at}
use Rattle.frames.specs.Logic.{rows}
use Rattle.frames.specs.Table.{equal_members}
use native.Mathlib.Omega.{arith}
use Rattle.rows.proofs.framing.has_equal_pair.Goals as goal

pub loop-i-init : goal.loop-i-init
loop-i-init c = let a = c.args in any_none equal_members (rows (pair_at a.file.now) 4 a.d a.from)

pub returns-then-u16_at : goal.returns-then-u16_at
unfolding equal_members pair_at
returns-then-u16_at c = let a = c.args in any-stop c.loop-i.invariant (here-rows (pair_at a.file.now) 4 a.d a.from c.loop-i.i (omega arith)) (equal-yes (cc))

pub loop-i-preserved : goal.loop-i-preserved
unfolding equal_members pair_at
loop-i-preserved c = let a = c.args in any-more c.loop-i.invariant (here-rows (pair_at a.file.now) 4 a.d a.from c.loop-i.i (omega arith)) (equal-no (λ e. c.if-u16_at.false (cc)))

pub returns : goal.returns
returns c = let a = c.args in any-done c.loop-i.invariant (omega (arith, length-rows (pair_at a.file.now) 4 a.d a.from))
