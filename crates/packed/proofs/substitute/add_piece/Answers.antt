-- `packed::substitute::add_piece` meets its contract: the class decides between the image and the name.
use Rattle.packed.proofs.Adding.{adds_same}
use Rattle.packed.proofs.Pieces.{piece-image, piece-name, var-no, var-yes}
use mathlib.Core.List.Memᴰ
use mathlib.Core.Path.{refl}
use native.Mathlib.Omega.{arith}
use Rattle.packed.proofs.substitute.add_piece.Goals as goal

pub add_range-requires : goal.add_range-requires
add_range-requires c =
    let a = c.args in
    let v = var-yes a.file.now a.symbols.now a.s.0 _ _ c.entry.ensures c.class.ensures c.if-class-eq1.true in
    let r = c.requires.imaged.rises a.s.0 (Memᴰ.head refl) v in
    let w = c.requires.imaged.within a.s.0 (Memᴰ.head refl) v in
    ((omega arith, omega arith), (omega arith, omega arith))

pub returns-then-class-eq1 : goal.returns-then-class-eq1
returns-then-class-eq1 c =
    let a = c.args in
    let v = var-yes a.file.now a.symbols.now a.s.0 _ _ c.entry.ensures c.class.ensures c.if-class-eq1.true in
    adds_same (piece-image a.file.now a.symbols.now a.froms.now a.tos.now a.pool.now a.s.0 _ _ v c.entry-from.ensures c.entry-to.ensures) c.add_range.ensures.adds

pub returns : goal.returns
returns c =
    let a = c.args in
    let v = var-no a.file.now a.symbols.now a.s.0 _ _ c.entry.ensures c.class.ensures c.if-class-eq1.false in
    adds_same (piece-name a.file.now a.symbols.now a.froms.now a.tos.now a.pool.now a.s.0 v) c.add_symbol.ensures
