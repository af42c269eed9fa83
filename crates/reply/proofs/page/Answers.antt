-- `reply::page` has the length that its type says.
use Prim.Native.Nat.{ℕ}
use lib.ListN.{length-replicate}
use Rattle.reply.proofs.page.Goals as goal

pub returns : goal.returns
returns c = length-replicate {0} {A = ℕ} 524352 0
