-- `rows::numbers::all_active` meets its contract: the loop stops at the first member that fails. The invariant: the test of what is left of the list is the test of the whole (`AllSoFar`).
use Rattle.frames.proofs.Chains.{told}
use Rattle.frames.proofs.Loops.{all_done, all_more, all_none, all-stop, here-rows, length-rows}
use Rattle.frames.specs.Layout.{u32}
use Rattle.frames.specs.Logic.{rows}
use Rattle.frames.specs.Table.{active}
use lib.ListN.{length}
use native.Mathlib.Omega.{arith}
use Rattle.rows.proofs.numbers.all_active.Goals as goal

pub loop-i-init : goal.loop-i-init
loop-i-init c = let a = c.args in all_none (active a.file.now a.statements.now (length a.statements.now)) (rows (u32 a.file.now) 4 a.h a.from)

pub loop-i-preserved : goal.loop-i-preserved
loop-i-preserved c = let a = c.args in all_more c.loop-i.invariant (here-rows (u32 a.file.now) 4 a.h a.from c.loop-i.i (omega arith)) (told (active a.file.now a.statements.now (length a.statements.now)) c.is_active.ensures c.u32_at-s.ensures.0 c.if-not-is_active.false)

pub returns-then-not-is_active : goal.returns-then-not-is_active
returns-then-not-is_active c = let a = c.args in all-stop c.loop-i.invariant (here-rows (u32 a.file.now) 4 a.h a.from c.loop-i.i (omega arith)) (told (active a.file.now a.statements.now (length a.statements.now)) c.is_active.ensures c.u32_at-s.ensures.0 c.if-not-is_active.true)

pub returns : goal.returns
returns c = let a = c.args in all_done c.loop-i.invariant (omega (arith, length-rows (u32 a.file.now) 4 a.h a.from))
