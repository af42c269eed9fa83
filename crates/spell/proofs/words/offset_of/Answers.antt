-- `spell::words::offset_of` meets its contract.
use mathlib.Core.Path.{refl, ◌∙◌, ap}
use Rattle.frames.proofs.Chains.{pick_first, pick_second, equal-yes, equal-no}
use Rattle.spell.specs.Words.{as_offset, offset_of}
use Rattle.spell.proofs.words.offset_of.Goals as goal

pub returns-then-word-eq0 : goal.returns-then-word-eq0
unfolding offset_of
returns-then-word-eq0 c = c.as_offset.ensures ∙ ap as_offset (pick_first _ (equal-yes c.if-word-eq0.true) refl)

pub returns : goal.returns
unfolding offset_of
returns c = c.as_offset-2.ensures ∙ ap as_offset (c.entry_or.ensures ∙ pick_second _ (equal-no c.if-word-eq0.false) refl)
