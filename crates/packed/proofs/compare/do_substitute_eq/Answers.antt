-- `packed::compare::do_substitute_eq` meets its contract: the symbols are met one after another (`Meets`), and at the end nothing is left.
use Rattle.packed.proofs.Lists.{compares-lists}
use Rattle.frames.specs.Layout.{symbols_at}
use Rattle.frames.specs.Logic.{equal}
use Rattle.packed.proofs.Comparing.{meets-done, meets-more, meets-none, meets-stop}
use Rattle.packed.proofs.Symbols.{here-symbol, imaged-one, symbols-length}
use mathlib.Core.Path.{◌∙◌, sym}
use native.Mathlib.Omega.{arith}
use Rattle.packed.proofs.compare.do_substitute_eq.Goals as goal

pub loop-i-init : goal.loop-i-init
loop-i-init c =
    let a = c.args in
    meets-none _ (symbols_at a.file.now a.at) a.pool.now a.from a.to (omega arith) (omega arith)

pub meet_piece-requires : goal.meet_piece-requires
meet_piece-requires c =
    let a = c.args in
    let h = here-symbol a.file.now a.at c.loop-i.i c.symbol_count-n.ensures.0 c.symbols_from-base.ensures.0 c.u16_at.ensures.0 (omega arith) in
    ((c.loop-i.invariant.rises, c.loop-i.invariant.fits), imaged-one c.requires.1 h c.loop-i.invariant.begun _ (omega arith))

pub returns-in_default : goal.returns-in_default
returns-in_default c =
    let whole = compares-lists c.args.file.now c.args.symbols.now c.args.at c.args.froms.now c.args.tos.now
    (let a = c.args in
    let h = here-symbol a.file.now a.at c.loop-i.i c.symbol_count-n.ensures.0 c.symbols_from-base.ensures.0 c.u16_at.ensures.0 (omega arith) in
    meets-stop c.loop-i.invariant h (sym c.in_default.is ∙ c.meet_piece.ensures)) in record { bytes = whole.0; lists = whole.1 }

pub loop-i-preserved : goal.loop-i-preserved
loop-i-preserved c =
    let a = c.args in
    let h = here-symbol a.file.now a.at c.loop-i.i c.symbol_count-n.ensures.0 c.symbols_from-base.ensures.0 c.u16_at.ensures.0 (omega arith) in
    meets-more c.loop-i.invariant h (sym c.in-Some.is ∙ c.meet_piece.ensures)

pub returns : goal.returns
unfolding equal
returns c =
    let whole = compares-lists c.args.file.now c.args.symbols.now c.args.at c.args.froms.now c.args.tos.now
    (let a = c.args in
    meets-done c.loop-i.invariant (omega (arith, symbols-length a.file.now a.at))) in record { bytes = whole.0; lists = whole.1 }
