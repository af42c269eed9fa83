-- `spans::is_token` meets its contract: a token of another length is not one byte (`token-other`); one of one byte is that byte (`token-single`).
use Rattle.frames.proofs.Chains.{equal-eqb}
use Rattle.spans.proofs.Spanning.{token-other, token-single}
use lib.ListN.{get_or}
use mathlib.Core.Path.{◌∙◌}
use native.Mathlib.Omega.{arith}
use Rattle.spans.proofs.is_token.Goals as goal

pub returns-then-to-from-ne1 : goal.returns-then-to-from-ne1
returns-then-to-from-ne1 c = token-other c.args.text.now c.args.from c.args.to c.args.b (omega arith) (omega arith) (λ one. omega (arith, c.if-to-from-ne1.true))

pub returns : goal.returns
returns c = let a = c.args in equal-eqb (get_or a.text.now a.from 0) a.b ∙ token-single a.text.now a.from a.to a.b (omega arith) (omega arith) (omega arith)
