-- `packed::compare::matches_range` meets its contract: `==` on slices asks what `same` asks (`pointwise-same`).
use mathlib.Core.Path.{◌∙◌}
use Rattle.frames.proofs.Words.{pointwise-same}
use Rattle.packed.specs.Pool.{range}
use Rattle.packed.proofs.compare.matches_range.Goals as goal

pub returns : goal.returns
unfolding range
returns c = c.eq.ensures ∙ pointwise-same _ _
