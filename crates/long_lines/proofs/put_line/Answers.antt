-- `put_line` meets its contract: there is always room (`long-line-few`).
use native.Mathlib.Omega.{arith}
use Rattle.reply.proofs.Whole.{stands}
use Rattle.long_lines.specs.LongLines.{long_line_of}
use Rattle.long_lines.proofs.Rooms.{long-line-few}
use Rattle.long_lines.proofs.put_line.Goals as goal

pub returns : goal.returns
returns c =
    let whole = stands (long_line_of c.args.file.now c.args.p.0) c.put_statement.ensures (omega (arith, long-line-few c.args.file.now c.requires.filed.0.good c.args.p.0, c.requires.room)) in
    record { prefix_len = rw c.unwrap_or.ensures whole.0; out_after = rw c.unwrap_or.ensures whole.1 }
