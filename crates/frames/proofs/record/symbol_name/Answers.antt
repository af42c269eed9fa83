-- `frames::record::symbol_name` meets its contract: the record lists nothing, so that the name follows the class (`name-is`).
use Prim.Native.Nat.{◌+◌}
use Rattle.frames.proofs.Naming.{name-is}
use native.Mathlib.Omega.{arith}
use mathlib.Core.Path.{◌∙◌, refl}
use Rattle.frames.proofs.record.symbol_name.Goals as goal

pub returns : goal.returns
returns c = c.part.ensures ∙ name-is _ _ c.requires (c.args.at + 7) c.saturating_sub.result refl (omega (arith, c.length_at.ensures.0, c.saturating_sub.ensures))
