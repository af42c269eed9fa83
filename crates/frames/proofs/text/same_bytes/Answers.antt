-- `frames::text::same_bytes` meets its contract: `==` on slices asks what `same` asks (`pointwise-same`).
use mathlib.Core.Path.{◌∙◌}
use Rattle.frames.proofs.Words.{pointwise-same}
use Rattle.frames.proofs.text.same_bytes.Goals as goal

pub returns : goal.returns
returns c = c.eq.ensures ∙ pointwise-same c.args.a.now c.args.b.now
