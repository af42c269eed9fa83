-- `packed::compare::raw_eq` meets its contract: the symbols are met one after another (`Meets`), and at the end nothing is left.
use Rattle.packed.proofs.Lists.{raw-lists}
use Rattle.frames.specs.Layout.{symbols_at}
use Rattle.frames.specs.Logic.{equal}
use Rattle.packed.proofs.Comparing.{meets-done, meets-more, meets-none, meets-stop, met-spelled}
use Rattle.packed.proofs.Symbols.{here-symbol, symbols-length}
use mathlib.Core.Path.{◌∙◌, sym}
use native.Mathlib.Omega.{arith}
use Rattle.packed.proofs.compare.raw_eq.Goals as goal

pub loop-j-init : goal.loop-j-init
loop-j-init c =
    let a = c.args in
    meets-none _ (symbols_at a.file.now a.at) a.pool.now a.from a.to (omega arith) (omega arith)

pub returns-in_default : goal.returns-in_default
returns-in_default c =
    let whole = raw-lists c.args.file.now c.args.symbols.now c.args.at
    (let a = c.args in
    let h = here-symbol a.file.now a.at c.loop-j.j c.symbol_count-n.ensures.0 c.symbols_from-base.ensures.0 c.u16_at.ensures.0 (omega arith) in
    meets-stop c.loop-j.invariant h (sym c.in_default.is ∙ met-spelled a.file.now a.symbols.now c.u16_at.result _ _ _ c.meet_name.ensures c.name-name.ensures c.entry.ensures)) in record { bytes = whole.0; lists = whole.1 }

pub loop-j-preserved : goal.loop-j-preserved
loop-j-preserved c =
    let a = c.args in
    let h = here-symbol a.file.now a.at c.loop-j.j c.symbol_count-n.ensures.0 c.symbols_from-base.ensures.0 c.u16_at.ensures.0 (omega arith) in
    meets-more c.loop-j.invariant h (sym c.in-Some.is ∙ met-spelled a.file.now a.symbols.now c.u16_at.result _ _ _ c.meet_name.ensures c.name-name.ensures c.entry.ensures)

pub returns : goal.returns
unfolding equal
returns c =
    let whole = raw-lists c.args.file.now c.args.symbols.now c.args.at
    (let a = c.args in
    meets-done c.loop-j.invariant (omega (arith, symbols-length a.file.now a.at))) in record { bytes = whole.0; lists = whole.1 }
