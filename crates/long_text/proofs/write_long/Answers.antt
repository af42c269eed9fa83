-- `long_text::write_long` meets its contract: the length is known first; a text that is longer than the most is left out (`too_long`), any other one is written
-- whole (`whole`).
use Rattle.long_text.proofs.Fitting.{too_long, whole}
use native.Mathlib.Omega.{arith}
use Rattle.long_text.proofs.write_long.Goals as goal

pub returns-then-most-length : goal.returns-then-most-length
returns-then-most-length c =
    let a = c.args in
    too_long a.file.now a.tree.now a.nodes a.word a.sizes.now a.pending.now a.output.now _ _
    c.most_bytes-most.ensures c.text_length-length.ensures (omega (arith, c.if-most-length.true))

pub returns : goal.returns
returns c =
    let a = c.args in
    whole a.file.now a.tree.now a.nodes a.word a.sizes.now a.pending.now a.output.now _ _
    c.most_bytes-most.ensures
    c.text_length-length.ensures _
    (omega (arith, c.if-most-length.false)) c.write_text.ensures
