-- `verdict_text::put_line` meets its contract: each of the five parts stands after the one before, and the equations of
-- the five calls join to the line.
use Prim.Native.Nat.{◌≤◌}
use mathlib.Core.Path.{sym}
use native.Mathlib.Omega.{arith}
use lib.ListN.{length}
use lib.Seq.{length-take-le}
use Rattle.verdict_text.proofs.put_line.Goals as goal

pub returns : goal.returns
returns c =
    let put = c.append in
    let fits : put.result ≤ length put.new.out = omega arith in
    record { prefix_len = (fits, sym (length-take-le put.result put.new.out fits)); out_after = cc }
