-- `packed::compare::matches_byte` meets its contract: one byte, marked, is compared (`same_byte`).
use mathlib.Core.Path.{◌∙◌}
use Rattle.frames.proofs.Chains.{equal-eqb}
use Rattle.packed.proofs.Comparing.{same_byte}
use Rattle.packed.proofs.compare.matches_byte.Goals as goal

pub returns : goal.returns
returns c = let a = c.args in let p = c.requires in equal-eqb _ _ ∙ same_byte a.name.now a.at a.pool.now p.0 p.1
