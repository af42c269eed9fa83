-- `packed::pool::add_range` meets its contract: there is room for the range, or nothing is written (`adds-to`, `adds-full`).
use Rattle.packed.proofs.Adding.{adds-full, adds-to, untouched-full, untouched-to}
use Rattle.packed.proofs.Written.{range_length}
use Rattle.packed.specs.Pool.{range}
use native.Mathlib.Omega.{arith}
use Rattle.packed.proofs.pool.add_range.Goals as goal

pub returns-then-limit-used : goal.returns-then-limit-used
returns-then-limit-used c =
    let a = c.args in
    let l = range_length a.from a.to a.pool.now (omega arith) (omega arith) in
    record { adds = adds-full (range a.from a.to a.pool.now) a.pool.now (omega arith); full = untouched-full a.pool.now }

pub returns : goal.returns
returns c =
    let a = c.args in
    let l = range_length a.from a.to a.pool.now (omega arith) (omega arith) in
    record { adds = adds-to (omega arith) (omega arith) (omega arith) c.copy_within.ensures; full = untouched-to _ _ _ }
