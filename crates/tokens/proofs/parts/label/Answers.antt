-- `tokens::parts::label` meets its contract: it is what follows its sign (`label_after`), or the token (`label-whole`).
use Prim.Native.Nat.{◌+◌}
use Rattle.tokens.proofs.Halves.{first-at}
use Rattle.tokens.proofs.Split.{label_after, label-whole, to_the_end}
use mathlib.Core.Path.{◌∙◌, sym}
use native.Mathlib.Omega.{arith}
use Rattle.tokens.proofs.parts.label.Goals as goal

pub returns-then-sign-token : goal.returns-then-sign-token
returns-then-sign-token c = to_the_end c.args.token.now (c.label_sign-sign.result + 1) ∙ sym (label_after (first-at _ c.requires.0) (first-at _ c.requires.1) c.label_sign-sign.ensures.0 c.label_sign-sign.ensures.1 (omega arith))

pub returns-else-sign-token : goal.returns-else-sign-token
returns-else-sign-token c = sym (label-whole (first-at _ c.requires.0) (first-at _ c.requires.1) c.label_sign-sign.ensures.0 c.label_sign-sign.ensures.1 (omega arith))
