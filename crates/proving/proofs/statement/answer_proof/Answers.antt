-- `proving::statement::answer_proof` meets its contract: what is told of the proof's answer is the answer of the run.
use Rattle.proving.proofs.statement.answer_proof.Goals as goal

pub returns : goal.returns
returns c = c.tell.ensures.says _ _ _ c.prove_cut.ensures
