-- `proof::end_text` meets its contract.
use Rattle.proof.proofs.LastToken.{ends-go, ends-none, ends-stop}
use native.Mathlib.Omega.{arith}
use Rattle.proof.proofs.end_text.Goals as goal

pub on_token-requires : goal.on_token-requires
on_token-requires c = let q = c.requires.low in record { labelled = c.requires.labelled; running = c.requires.running; within = (((omega (arith, c.if-from-text.true), omega arith), q.0.1), q.0.0) }

pub returns-in-Ok : goal.returns-in-Ok
returns-in-Ok c = ends-go c.requires.running c.statement_offset-at.ensures c.if-from-text.true (rw c.in-Ok.is at c.on_token.ensures) c.finish.ensures

pub returns-in-Err : goal.returns-in-Err
returns-in-Err c = ends-stop c.requires.running c.statement_offset-at.ensures c.if-from-text.true (rw c.in-Err.is at c.on_token.ensures)

pub returns : goal.returns
returns c = ends-none c.requires.running c.statement_offset-at.ensures (omega (arith, c.if-from-text.false, c.requires.low.1)) c.finish-2.ensures
