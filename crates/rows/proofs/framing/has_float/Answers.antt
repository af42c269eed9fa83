-- `rows::framing::has_float` meets its contract: the loop stops at the first member that passes. The invariant: the test of what is left of the list is the test of the whole (`AnySoFar`).
use Rattle.frames.proofs.Chains.{told}
use Rattle.frames.proofs.Loops.{any-done, any-more, any_none, any-stop, here-rows, length-rows}
use Rattle.frames.specs.Layout.{u32}
use Rattle.frames.specs.Logic.{rows}
use Rattle.frames.specs.Table.{float_below, has_float}
use native.Mathlib.Omega.{arith}
use Rattle.rows.proofs.framing.has_float.Goals as goal

pub loop-i-init : goal.loop-i-init
loop-i-init c = let a = c.args in any_none (float_below a.file.now a.statements.now a.limit a.v.0) (rows (u32 a.file.now) 4 a.h a.from)

pub returns-then-is_float_below : goal.returns-then-is_float_below
unfolding has_float
returns-then-is_float_below c = let a = c.args in any-stop c.loop-i.invariant (here-rows (u32 a.file.now) 4 a.h a.from c.loop-i.i (omega arith)) (told (float_below a.file.now a.statements.now a.limit a.v.0) c.is_float_below.ensures c.u32_at-s.ensures.0 c.if-is_float_below.true)

pub loop-i-preserved : goal.loop-i-preserved
loop-i-preserved c = let a = c.args in any-more c.loop-i.invariant (here-rows (u32 a.file.now) 4 a.h a.from c.loop-i.i (omega arith)) (told (float_below a.file.now a.statements.now a.limit a.v.0) c.is_float_below.ensures c.u32_at-s.ensures.0 c.if-is_float_below.false)

pub returns : goal.returns
unfolding has_float
returns c = let a = c.args in any-done c.loop-i.invariant (omega (arith, length-rows (u32 a.file.now) 4 a.h a.from))
