-- `packed::substitute::do_substitute` meets its contract: after i symbols the pool has the pieces of those before the i-th (`Joins`); writing them leaves the images alone (`piece-kept`).
use Rattle.packed.proofs.Lists.{substitutes-lists}
use Prim.Native.Nat.{◌<◌}
use Rattle.frames.specs.Layout.{symbols_at}
use Rattle.packed.proofs.Joining.{joins-done, joins-full, joins-length, joins-more, joins-none}
use Rattle.packed.proofs.Pieces.{piece-kept}
use Rattle.packed.proofs.Symbols.{here-symbol, imaged-one, symbols-length}
use Rattle.frames.proofs.Loops.{here-get_or}
use Rattle.packed.specs.Pool.{piece}
use lib.ListN.{length}
use native.Mathlib.Omega.{arith}
use Rattle.packed.proofs.substitute.do_substitute.Goals as goal

pub loop-i-init : goal.loop-i-init
loop-i-init c = let a = c.args in joins-none (piece a.file.now a.symbols.now a.froms.now a.tos.now a.pool.now) (symbols_at a.file.now a.at) a.pool.now (omega arith) (omega arith)

pub add_piece-requires : goal.add_piece-requires
add_piece-requires c =
    let a = c.args in
    let i = c.loop-i.i in
    let v = c.loop-i.invariant in
    let n = symbols-length a.file.now a.at in
    let count = c.symbol_count-n.ensures.0 in
    let l : i < length (symbols_at a.file.now a.at) = omega arith in
    let stands = here-symbol a.file.now a.at i count c.symbols_from-base.ensures.0 c.u16_at.ensures.0 c.loop-i-test.true in
    let here = here-get_or stands 0 in
    let size = joins-length v in
    let ends = v.ends in
    record { used_le_limit = (v.room, omega arith); imaged = imaged-one c.requires.imaged stands v.low _ (omega arith) }

pub returns-in_err-end : goal.returns-in_err-end
returns-in_err-end c =
    rw c.from_residual.ensures
    (let whole = substitutes-lists c.args.file.now c.args.symbols.now c.args.at c.args.froms.now c.args.tos.now
    (let a = c.args in
    let i = c.loop-i.i in
    let v = c.loop-i.invariant in
    let n = symbols-length a.file.now a.at in
    let count = c.symbol_count-n.ensures.0 in
    let l : i < length (symbols_at a.file.now a.at) = omega arith in
    let stands = here-symbol a.file.now a.at i count c.symbols_from-base.ensures.0 c.u16_at.ensures.0 c.loop-i-test.true in
    let here = here-get_or stands 0 in
    let im = imaged-one c.requires.imaged stands v.low a.used (omega arith) in
    let kept = piece-kept a.file.now a.symbols.now a.froms.now a.tos.now _ a.pool.now _ a.used _ im (omega arith) v.is in
    joins-full v l here kept (rw c.in_err-end.was at c.add_piece.ensures)) in record { bytes = whole.0; lists = whole.1 })

pub loop-i-preserved : goal.loop-i-preserved
loop-i-preserved c =
    let a = c.args in
    let i = c.loop-i.i in
    let v = c.loop-i.invariant in
    let n = symbols-length a.file.now a.at in
    let count = c.symbol_count-n.ensures.0 in
    let l : i < length (symbols_at a.file.now a.at) = omega arith in
    let stands = here-symbol a.file.now a.at i count c.symbols_from-base.ensures.0 c.u16_at.ensures.0 c.loop-i-test.true in
    let here = here-get_or stands 0 in
    let im = imaged-one c.requires.imaged stands v.low a.used (omega arith) in
    let kept = piece-kept a.file.now a.symbols.now a.froms.now a.tos.now _ a.pool.now _ a.used _ im (omega arith) v.is in
    joins-more v l here kept (rw c.in_ok-end.was at c.add_piece.ensures)

pub returns : goal.returns
returns c =
    let whole = substitutes-lists c.args.file.now c.args.symbols.now c.args.at c.args.froms.now c.args.tos.now
    (let a = c.args in
    let n = symbols-length a.file.now a.at in
    let count = c.symbol_count-n.ensures.0 in
    joins-done c.loop-i.invariant (omega arith)) in record { bytes = whole.0; lists = whole.1 }
