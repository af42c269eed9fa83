-- `reply::put_whole` meets its contract: there is always room (`replies`).
use Rattle.reply.proofs.Whole.{replies}
use Rattle.reply.proofs.put_whole.Goals as goal

pub returns : goal.returns
returns c =
    let whole = replies _ c.put_reply.ensures c.requires in
    record { prefix_len = rw c.unwrap_or.ensures whole.0; out_after = rw c.unwrap_or.ensures whole.1 }
