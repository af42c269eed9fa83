-- `lines::put_text` meets its contract: what stands before the text, the text, and what stands behind it (`copied_in`).
use native.Mathlib.Omega.{arith}
use Rattle.packed.proofs.Written.{copied_in}
use Rattle.lines.proofs.put_text.Goals as goal

pub returns : goal.returns
returns c = rw c.copy_from_slice.ensures.after (copied_in _ c.args.at _ c.args.out.now (omega arith))
