-- `packed_calls::image_within` meets its contract: the two tests are those of the definition, and a constant needs none.
use mathlib.Core.Path.{◌∙◌, refl}
use native.Mathlib.Omega.{arith}
use Rattle.frames.specs.Logic.{at_most}
use Rattle.frames.proofs.Chains.{both_first, both-second, at_most-yes, at_most-no}
use Rattle.packed.proofs.Pieces.{var-yes, var-no}
use Rattle.packed_calls.proofs.Ranges.{constant-within, image-told}
use Rattle.packed_calls.proofs.image_within.Goals as goal

pub returns-then-class-ne1 : goal.returns-then-class-ne1
returns-then-class-ne1 c = let a = c.args in constant-within a.file.now a.symbols.now a.froms.now a.tos.now a.used a.s.0 (var-no a.file.now a.symbols.now a.s.0 _ _ c.entry.ensures c.class.ensures c.if-class-ne1.true)

pub returns-then-from-end : goal.returns-then-from-end
unfolding at_most
returns-then-from-end c =
    let a = c.args in
    let v = var-yes a.file.now a.symbols.now a.s.0 _ _ c.entry.ensures c.class.ensures c.if-class-ne1.false in
    both-second (at_most-yes c.if-from-end.true) refl ∙ image-told a.file.now a.symbols.now a.froms.now a.tos.now a.used a.s.0 v c.entry-from.ensures c.entry-end.ensures

pub returns-else-from-end : goal.returns-else-from-end
unfolding at_most
returns-else-from-end c =
    let a = c.args in
    let v = var-yes a.file.now a.symbols.now a.s.0 _ _ c.entry.ensures c.class.ensures c.if-class-ne1.false in
    let turned = at_most-no (omega arith) in
    both_first _ turned turned ∙ image-told a.file.now a.symbols.now a.froms.now a.tos.now a.used a.s.0 v c.entry-from.ensures c.entry-end.ensures
