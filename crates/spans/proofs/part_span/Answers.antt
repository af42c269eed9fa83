-- `spans::part_span` meets its contract: the signs are found in the part of the text that is the token.
use Rattle.packed.specs.Pool.{range}
use Rattle.packed.proofs.Written.{range_length}
use Rattle.spans.proofs.Spanning.{before-same}
use Rattle.spans.proofs.part_span.Goals as goal

pub returns : goal.returns
unfolding range
returns c =
    let a = c.args in
    before-same (range_length a.from a.to a.text.now c.requires.0 c.requires.1) c.find.ensures c.find-2.ensures c.span_before.ensures
