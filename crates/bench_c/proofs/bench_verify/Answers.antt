-- `bench_verify` meets its contract.
use native.Mathlib.Omega.{arith}
use Rattle.bench_c.proofs.Wording.{told-small, verified-word}
use Rattle.bench_c.proofs.bench_verify.Goals as goal

pub pack-requires : goal.pack-requires
pack-requires c = let s = told-small c.verify-told.ensures in (omega (arith, s.0), (omega (arith, s.1.0), omega (arith, s.1.1)))

pub returns : goal.returns
returns c = verified-word c.verify-told.ensures c.pack.ensures
