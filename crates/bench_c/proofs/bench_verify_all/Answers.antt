-- `bench_verify_all` meets its contract.
use native.Mathlib.Omega.{arith}
use Rattle.bench_c.proofs.Wording.{refusal-small, answered-small, refused-word, answered-word}
use Rattle.bench_c.proofs.bench_verify_all.Goals as goal

pub pack-requires : goal.pack-requires
pack-requires c = let s = refusal-small c.verify_all.ensures c.in-Err.is c.number.ensures in (omega (arith, s.0), (omega (arith, s.1.0), omega (arith, s.1.0)))

pub pack-requires-in-Ok : goal.pack-requires-in-Ok
pack-requires-in-Ok c = let s = answered-small c.verify_all.ensures c.in-Ok.is in (omega arith, (omega arith, omega (arith, s.1.1)))

pub returns-in-Err : goal.returns-in-Err
returns-in-Err c = refused-word c.verify_all.ensures c.in-Err.is c.number.ensures c.pack.ensures

pub returns-in-Ok : goal.returns-in-Ok
returns-in-Ok c = answered-word c.verify_all.ensures c.in-Ok.is c.pack-in-Ok.ensures
