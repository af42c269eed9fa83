-- `proving::prove_statement` meets its contract: our tables have their sizes, and the index of labels is filled.
use Rattle.proving.proofs.Preparing.{statements_few}
use Rattle.proving.proofs.statement.prove_statement.Goals as goal

pub fill-requires-clause-statements_len_bound : goal.fill-requires-clause-statements_len_bound
fill-requires-clause-statements_len_bound c = statements_few c.requires.filed
