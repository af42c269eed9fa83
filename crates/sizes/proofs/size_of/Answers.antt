-- `sizes::size_of` meets its contract: an even word is a hypothesis, an odd one an application.
use native.Mathlib.Omega.{arith}
use Rattle.frames.proofs.Chains.{pick_first, pick_second, equal-yes, equal-no}
use Rattle.sizes.specs.Measured.{size_at}
use Rattle.sizes.proofs.size_of.Goals as goal

pub returns-then-word-eq0 : goal.returns-then-word-eq0
unfolding size_at
returns-then-word-eq0 c = pick_first _ (equal-yes (omega arith)) c.label_size.ensures

pub returns : goal.returns
unfolding size_at
returns c = pick_second _ (equal-no c.if-word-eq0.false) c.entry.ensures
