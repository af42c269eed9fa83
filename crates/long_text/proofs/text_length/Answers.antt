-- `long_text::text_length` meets its contract: the size that the table tells, less the space after the last label (`text-told`).
use Rattle.long_text.proofs.Fitting.{text-told}
use Rattle.long_text.proofs.text_length.Goals as goal

pub returns : goal.returns
returns c =
    let a = c.args in
    text-told a.file.now a.tree.now a.nodes a.word a.sizes.now _ _ _ c.measure.ensures
    c.size_of.ensures c.saturating_sub.ensures
