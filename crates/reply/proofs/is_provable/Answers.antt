-- `reply::is_provable` meets its contract: the kind that is read is the statement's (`kind-is`).
use mathlib.Core.Path.{◌∙◌, ap}
use Prim.Native.Nat.{ℕ}
use Rattle.frames.specs.Logic.{equal}
use Rattle.frames.proofs.Chains.{equal-eqb}
use Rattle.reply.proofs.LineLaws.{kind-is}
use Rattle.reply.proofs.is_provable.Goals as goal

pub returns : goal.returns
returns c = equal-eqb _ _ ∙ ap (λ (k : ℕ). equal k 5) (kind-is c.requires.0 _ c.requires.1 c.statement_offset-at.ensures c.kind.ensures)
