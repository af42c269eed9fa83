-- `packed::pool::put_name` meets its contract: one byte, marked, or the name as it is, then its last byte marked (`written_last`).
use Rattle.packed.proofs.Adding.{ended-none}
use Rattle.packed.proofs.Written.{written_last}
use native.Mathlib.Omega.{arith}
use Rattle.packed.proofs.pool.put_name.Goals as goal

pub returns-in-Some : goal.returns-in-Some
returns-in-Some c =
    let a = c.args in
    let k = c.in-Some.ensures.item in
    let last = k.4 (omega arith) 0 in
    cc (written_last a.name.now a.at a.pool.now (omega arith) c.requires)

pub returns-in_default : goal.returns-in_default
returns-in_default c = let a = c.args in let k = c.in_default.ensures.item in cc (ended-none a.name.now k.3)
