-- `statement::answer_statement` meets its contract.
use Rattle.proving.proofs.Asking.{next_small, text_few, proof-answers, other-says, beyond-says}
use native.Mathlib.Omega.{arith}
use Rattle.proving.proofs.statement.answer_statement.Goals as goal

pub proof_text-text-requires : goal.proof_text-text-requires
proof_text-text-requires c = next_small c.requires.filed _ c.if-own-statements.true c.statement_offset-at.ensures

pub answer_proof-requires : goal.answer_proof-requires
answer_proof-requires c = record { labelled = c.requires.labelled; filed = c.requires.filed; asked = (c.if-own-statements.true, text_few c.requires.filed _ c.if-own-statements.true c.statement_offset-at.ensures c.proof_text-text.ensures c.kind.ensures c.if-kind-eq5.true); ours = c.requires.ours }

pub returns-then-kind-eq5 : goal.returns-then-kind-eq5
returns-then-kind-eq5 c = proof-answers c.requires.filed _ c.if-own-statements.true c.statement_offset-at.ensures c.proof_text-text.ensures c.kind.ensures c.if-kind-eq5.true _ c.answer_proof.ensures

pub returns-else-kind-eq5 : goal.returns-else-kind-eq5
returns-else-kind-eq5 c = other-says c.requires.filed _ c.if-own-statements.true c.statement_offset-at.ensures _ c.kind.ensures c.if-kind-eq5.false

pub returns-else-own-statements : goal.returns-else-own-statements
returns-else-own-statements c = beyond-says c.requires.filed _ _ (omega arith)
