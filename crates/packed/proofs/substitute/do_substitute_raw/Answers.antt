-- `packed::substitute::do_substitute_raw` meets its contract: after i symbols the pool has the names of those before the i-th (`Joins`).
use Rattle.packed.proofs.Lists.{spells-lists}
use Prim.Native.Nat.{◌<◌}
use Rattle.frames.specs.Layout.{symbols_at}
use Rattle.packed.proofs.Joining.{joins-done, joins-full, joins-more, joins-none}
use Rattle.packed.proofs.Symbols.{here-symbol, symbols-length}
use Rattle.frames.proofs.Loops.{here-get_or}
use Rattle.packed.specs.Pool.{spelled}
use lib.ListN.{length}
use mathlib.Core.Path.{refl}
use native.Mathlib.Omega.{arith}
use Rattle.packed.proofs.substitute.do_substitute_raw.Goals as goal

pub loop-i-init : goal.loop-i-init
loop-i-init c = let a = c.args in joins-none (spelled a.file.now a.symbols.now) (symbols_at a.file.now a.at) a.pool.now (omega arith) (omega arith)

pub returns-in_err-end : goal.returns-in_err-end
returns-in_err-end c =
    rw c.from_residual.ensures
    (let whole = spells-lists c.args.file.now c.args.symbols.now c.args.at
    (let a = c.args in
    let i = c.loop-i.i in
    let v = c.loop-i.invariant in
    let n = symbols-length a.file.now a.at in
    let count = c.symbol_count-n.ensures.0 in
    let l : i < length (symbols_at a.file.now a.at) = omega arith in
    let stands = here-symbol a.file.now a.at i count c.symbols_from-base.ensures.0 c.u16_at.ensures.0 c.loop-i-test.true in
    let here = here-get_or stands 0 in
    joins-full v l here refl (rw c.in_err-end.was at c.add_symbol.ensures)) in record { bytes = whole.0; lists = whole.1 })

pub loop-i-preserved : goal.loop-i-preserved
loop-i-preserved c =
    let a = c.args in
    let i = c.loop-i.i in
    let v = c.loop-i.invariant in
    let n = symbols-length a.file.now a.at in
    let count = c.symbol_count-n.ensures.0 in
    let l : i < length (symbols_at a.file.now a.at) = omega arith in
    let stands = here-symbol a.file.now a.at i count c.symbols_from-base.ensures.0 c.u16_at.ensures.0 c.loop-i-test.true in
    let here = here-get_or stands 0 in
    joins-more v l here refl (rw c.in_ok-end.was at c.add_symbol.ensures)

pub returns : goal.returns
returns c =
    let whole = spells-lists c.args.file.now c.args.symbols.now c.args.at
    (let a = c.args in
    let n = symbols-length a.file.now a.at in
    let count = c.symbol_count-n.ensures.0 in
    joins-done c.loop-i.invariant (omega arith)) in record { bytes = whole.0; lists = whole.1 }
