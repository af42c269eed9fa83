-- `packed::pool::add_name` meets its contract: there is room for the name, or nothing is written (`adds-to`, `adds-full`).
use Rattle.packed.proofs.Adding.{adds-full, adds-to, untouched-full, untouched-to}
use Rattle.packed.proofs.Packs.{ended-length}
use Rattle.packed.specs.Packing.{ended}
use native.Mathlib.Omega.{arith}
use Rattle.packed.proofs.pool.add_name.Goals as goal

pub returns-then-limit-used : goal.returns-then-limit-used
returns-then-limit-used c =
    let a = c.args in
    let l = ended-length a.name.now in
    record { adds = adds-full (ended a.name.now) a.pool.now (omega arith); full = untouched-full a.pool.now }

pub returns : goal.returns
returns c =
    let a = c.args in
    let l = ended-length a.name.now in
    record { adds = adds-to (omega arith) (omega arith) (omega arith) c.put_name.ensures; full = untouched-to _ _ _ }
