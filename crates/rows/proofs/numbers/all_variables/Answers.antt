-- `rows::numbers::all_variables` meets its contract: the loop stops at the first member that fails. The invariant: the test of what is left of the list is the test of the whole (`AllSoFar`).
use mathlib.Core.Path.{◌∙◌, sym}
use Rattle.frames.proofs.Loops.{all_done, all_more, all_none, all-stop, here-rows, length-rows}
use Rattle.frames.specs.Layout.{pair_at}
use Rattle.frames.specs.Logic.{rows}
use Rattle.frames.specs.Table.{variables}
use native.Mathlib.Omega.{arith}
use Rattle.rows.proofs.numbers.all_variables.Goals as goal

pub loop-i-init : goal.loop-i-init
loop-i-init c = let a = c.args in all_none (variables a.file.now a.symbols.now) (rows (pair_at a.file.now) 4 a.d a.from)

pub loop-i-preserved : goal.loop-i-preserved
loop-i-preserved c = let a = c.args in all_more c.loop-i.invariant (here-rows (pair_at a.file.now) 4 a.d a.from c.loop-i.i (omega arith)) (sym c.are_variables.ensures ∙ c.if-not-are_variables.false)

pub returns-then-not-are_variables : goal.returns-then-not-are_variables
returns-then-not-are_variables c = let a = c.args in all-stop c.loop-i.invariant (here-rows (pair_at a.file.now) 4 a.d a.from c.loop-i.i (omega arith)) (sym c.are_variables.ensures ∙ c.if-not-are_variables.true)

pub returns : goal.returns
returns c = let a = c.args in all_done c.loop-i.invariant (omega (arith, length-rows (pair_at a.file.now) 4 a.d a.from))
