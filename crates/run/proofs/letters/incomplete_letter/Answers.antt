-- `run::letters::incomplete_letter` meets its contract.
use Rattle.run.proofs.Lettering.{incomplete-plain, incomplete-varint}
use Rattle.run.proofs.letters.incomplete_letter.Goals as goal

pub returns-then-k-gt0 : goal.returns-then-k-gt0
returns-then-k-gt0 c = incomplete-varint c.if-k-gt0.true

pub returns : goal.returns
returns c = incomplete-plain c.if-k-gt0.false
