-- `run_bytes::end-token` meets its contract.
use mathlib.Core.Path.{sym}
use Rattle.run_bytes.proofs.Byting.{plain-token}
use native.Mathlib.Omega.{arith}
use Rattle.run_bytes.proofs.end_token.Goals as goal

pub on_token-read-requires : goal.on_token-read-requires
on_token-read-requires c = let q = c.requires.low in record { labelled = c.requires.labelled; running = c.requires.running; within = (((omega (arith, q.1.0.0), omega (arith, q.1.0.1)), q.0.0.1), q.0.0.0) }

pub after-requires : goal.after-requires
after-requires c = let f = c.requires.running.checked.text_few in omega (arith, c.requires.low.1.0.1)

pub returns : goal.returns
returns c = let q = c.requires.low in let rd = c.on_token-read.ensures in plain-token q.0.1 q.1.1 q.1.0.0 (omega (arith, q.1.0.1)) rd.follows rd.keeps c.after.ensures
