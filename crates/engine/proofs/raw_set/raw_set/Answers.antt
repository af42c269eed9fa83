-- `engine::raw_set::raw_set` meets its contract: after i symbols the set has what those before the i-th add (`RawTo`).
use Prim.Native.Nat.{◌-◌}
use Rattle.engine.proofs.RawSets.{raw-done, raw-more, raw-none}
use Rattle.frames.specs.Layout.{symbols_at}
use Rattle.machine.specs.BenchTable.{numbers}
use Rattle.packed.proofs.Symbols.{here-symbol, symbols-length}
use native.Mathlib.Omega.{arith}
use Rattle.engine.proofs.raw_set.raw_set.Goals as goal

pub loop-i-init : goal.loop-i-init
loop-i-init c = let a = c.args in raw-none a.file.now a.symbols.now a.numbers.now (symbols_at a.file.now a.at) c.new-all.ensures

pub loop-i-preserved : goal.loop-i-preserved
loop-i-preserved c =
    let a = c.args in
    let h = here-symbol a.file.now a.at c.loop-i.i c.symbol_count-i-end.ensures.0 c.symbols_from-base.ensures.0 c.u16_at.ensures.0 (omega arith) in
    raw-more c.loop-i.invariant h c.mark_symbol-all.ensures

pub returns : goal.returns
returns c =
    let a = c.args in
    let l = symbols-length a.file.now a.at in
    let n = c.symbol_count-i-end.ensures.0 in
    raw-done c.loop-i.invariant (omega arith)
