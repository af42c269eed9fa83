-- `rows::numbers::rises` meets its contract: the loop stops at the first number that does not rise. The invariant: what is left rises from `low` exactly when the whole rises (`RisingSoFar`).
use Rattle.frames.proofs.Chains.{at_most-no, at_most-yes}
use Rattle.frames.proofs.Loops.{here-rows, length-rows, rising-done, rising-more, rising_none, rising-stop}
use Rattle.frames.specs.Layout.{u32}
use Rattle.frames.specs.Logic.{rows}
use borrow.Author.Rules.{rules}
use native.Mathlib.Omega.{arith}
use Rattle.rows.proofs.numbers.rises.Goals as goal

pub loop-i-init : goal.loop-i-init
loop-i-init c = let a = c.args in (search rules, rising_none (rows (u32 a.file.now) 4 a.h a.from))

pub returns-then-s-low : goal.returns-then-s-low
returns-then-s-low c = let a = c.args in rising-stop c.loop-i.invariant.1 (here-rows (u32 a.file.now) 4 a.h a.from c.loop-i.i (omega arith)) (at_most-no (omega arith))

pub loop-i-preserved : goal.loop-i-preserved
loop-i-preserved c = let a = c.args in (omega arith, rw c.u32_at-s.ensures.0 (rising-more c.loop-i.invariant.1 (here-rows (u32 a.file.now) 4 a.h a.from c.loop-i.i (omega arith)) (at_most-yes (omega arith))))

pub returns : goal.returns
returns c = let a = c.args in rising-done c.loop-i.invariant.1 (omega (arith, length-rows (u32 a.file.now) 4 a.h a.from))
