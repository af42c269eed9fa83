-- `run_bytes::plain_byte` meets its contract.
use mathlib.Core.Path.{refl, sym, ◌∙◌}
use Rattle.run_bytes.proofs.Byting.{plain_more, plain-none}
use native.Mathlib.Omega.{arith}
use borrow.Author.Rules.{rules}
use Rattle.run_bytes.proofs.plain_byte.Goals as goal

pub end_token-requires : goal.end_token-requires
end_token-requires c = record { labelled = c.requires.labelled; running = c.requires.running; low = (c.requires.low.0, ((c.if-s-at.true, c.requires.low.1.1), (sym c.divider.ensures ∙ c.if-divider.true))) }

pub overflow_add-result : goal.overflow_add-result
overflow_add-result c = search (rules, c.requires.running.checked.text_few, c.requires.low.1.1)

pub returns-then-divider : goal.returns-then-divider
returns-then-divider c = let q = c.requires.low in plain-none q.0.1 q.0.0.0 c.requires.running.sized q.1.0 (sym c.divider.ensures ∙ c.if-divider.true) (omega (arith, c.if-s-at.false, q.1.0))

pub returns : goal.returns
returns c = let q = c.requires.low in plain_more q.0.1 q.0.0.0 c.requires.running.sized q.1.0 (sym c.divider.ensures ∙ c.if-divider.false) q.1.1 refl
