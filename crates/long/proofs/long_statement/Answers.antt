-- `long_statement` meets its contract.
use mathlib.Core.Path.{◌∙◌}
use native.Mathlib.Omega.{arith}
use Rattle.proving.proofs.Asking.{next_small, text_few}
use Rattle.long.proofs.Answering.{proof-long, other-long, beyond-long}
use Rattle.long.proofs.long_statement.Goals as goal

pub proof_text-text-requires : goal.proof_text-text-requires
proof_text-text-requires c = next_small c.requires.filed _ c.if-own-statements.true c.statement_offset-at.ensures

pub prove_statement-answer-requires : goal.prove_statement-answer-requires
prove_statement-answer-requires c = record { filed = c.requires.filed; asked = (c.if-own-statements.true, text_few c.requires.filed _ c.if-own-statements.true c.statement_offset-at.ensures c.proof_text-text.ensures c.kind.ensures c.if-kind-eq5.true); entries = omega (arith, c.requires.entries) }

pub returns-then-kind-eq5 : goal.returns-then-kind-eq5
returns-then-kind-eq5 c = proof-long _ _ c.requires.filed _ _ c.if-own-statements.true c.statement_offset-at.ensures c.proof_text-text.ensures c.kind.ensures c.if-kind-eq5.true _ _ c.prove_statement-answer.ensures (c.tree-1.given ∙ c.requires.entries) c.tell_long.ensures

pub returns-else-kind-eq5 : goal.returns-else-kind-eq5
returns-else-kind-eq5 c = other-long _ _ c.requires.filed _ _ c.if-own-statements.true c.statement_offset-at.ensures c.kind.ensures c.if-kind-eq5.false

pub returns-else-own-statements : goal.returns-else-own-statements
returns-else-own-statements c = beyond-long _ _ c.requires.filed _ _ (omega (arith, c.if-own-statements.false))
