-- `tokens::parts::mark` meets its contract: it stands before its sign (`mark-before`).
use Rattle.tokens.proofs.Halves.{first-at, first-within}
use Rattle.tokens.proofs.Split.{mark-before}
use mathlib.Core.Path.{◌∙◌, sym}
use native.Mathlib.Omega.{arith}
use Rattle.tokens.proofs.parts.mark.Goals as goal

pub part_before-requires : goal.part_before-requires
part_before-requires c = omega (arith, first-within (first-at _ c.requires.1))

pub returns : goal.returns
returns c = c.part_before.ensures ∙ sym (mark-before (first-at _ c.requires.0) (first-at _ c.requires.1))
