-- `bench_long` meets its contract.
use native.Mathlib.Omega.{arith}
use Rattle.bench_c.proofs.Longing.{long-small, long-word}
use Rattle.bench_c.proofs.bench_long.Goals as goal

pub pack-requires : goal.pack-requires
pack-requires c = let s = long-small c.long_form-written.ensures in (omega (arith, s.0), (omega (arith, s.1.0), omega (arith, s.1.1)))

pub returns : goal.returns
returns c = long-word c.long_form-written.ensures c.pack.ensures
