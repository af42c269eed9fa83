-- `reply::put_reply` meets its contract: a longer input, and any other.
use native.Mathlib.Omega.{arith}
use Rattle.reply.proofs.Whole.{output-long, output-other}
use Rattle.reply.proofs.put_reply.Goals as goal

pub returns-then-input-gt65536 : goal.returns-then-input-gt65536
returns-then-input-gt65536 c = output-long _ c.if-input-gt65536.true c.put_refused.ensures

pub returns : goal.returns
returns c = output-other _ (omega (arith, c.if-input-gt65536.false)) c.reply_file.ensures
