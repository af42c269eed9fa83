-- `packed::images::do_substitute_vars` meets its contract: what was gathered and what the rest has is what all have (`GatheredTo`).
use Rattle.packed.proofs.Lists.{gathers-lists}
use Rattle.frames.specs.Layout.{symbols_at}
use Rattle.packed.proofs.Imaging.{gathered-done, gathered-more, gathered_none}
use Rattle.packed.proofs.Symbols.{here-symbol, symbols-length}
use native.Mathlib.Omega.{arith}
use Rattle.packed.proofs.images.do_substitute_vars.Goals as goal

pub loop-i-init : goal.loop-i-init
loop-i-init c = let a = c.args in gathered_none a.file.now a.symbols.now a.sets.now (symbols_at a.file.now a.at) c.new-all.ensures

pub loop-i-preserved : goal.loop-i-preserved
loop-i-preserved c =
    let a = c.args in
    let h = here-symbol a.file.now a.at c.loop-i.i c.symbol_count-n.ensures.0 c.symbols_from-base.ensures.0 c.u16_at.ensures.0 c.loop-i-test.true in
    gathered-more c.loop-i.invariant h c.include-all.ensures

pub returns : goal.returns
returns c = let a = c.args in let l = symbols-length a.file.now a.at in let whole = gathers-lists a.file.now a.symbols.now a.at (gathered-done c.loop-i.invariant (omega arith)) in record { bytes = whole.0; lists = whole.1 }
