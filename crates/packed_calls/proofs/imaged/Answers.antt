-- `packed_calls::imaged` meets its contract: the loop stops at the first symbol that fails. The invariant: the test of what is left is the test of all
-- (`PassedTo`).
use mathlib.Core.Path.{sym}
use native.Mathlib.Omega.{arith}
use Rattle.frames.specs.Layout.{symbols_at}
use Rattle.packed.proofs.Symbols.{here-symbol, symbols-length}
use Rattle.packed_calls.specs.Answers.{image_within, within}
use Rattle.packed_calls.proofs.Ranges.{passed_none, passed-more, passed-stop, passed-done}
use Rattle.packed_calls.proofs.imaged.Goals as goal

pub loop-i-init : goal.loop-i-init
loop-i-init c = let a = c.args in passed_none (image_within a.file.now a.symbols.now a.froms.now a.tos.now a.used) (symbols_at a.file.now a.at)

pub loop-i-preserved : goal.loop-i-preserved
loop-i-preserved c =
    let a = c.args in
    let h = here-symbol a.file.now a.at c.loop-i.i c.symbol_count-n.ensures.0 c.symbols_from-base.ensures.0 c.u16_at.ensures.0 c.loop-i-test.true in
    passed-more c.loop-i.invariant h (sym c.if-not-image_within.ensures)

pub returns-then-not-image_within : goal.returns-then-not-image_within
unfolding within
returns-then-not-image_within c =
    let a = c.args in
    let h = here-symbol a.file.now a.at c.loop-i.i c.symbol_count-n.ensures.0 c.symbols_from-base.ensures.0 c.u16_at.ensures.0 c.loop-i-test.true in
    passed-stop c.loop-i.invariant h (sym c.if-not-image_within.ensures)

pub returns : goal.returns
unfolding within
returns c = let a = c.args in let l = symbols-length a.file.now a.at in passed-done c.loop-i.invariant (omega arith)
