-- `proof::verify_proof` meets its contract: the start, then the text to its end.
use mathlib.Core.Path.{◌∙◌}
use Rattle.proof.proofs.Whole.{running-start, verify-refused, verify-text}
use Rattle.proof.proofs.verify_proof.Goals as goal

pub run_text-requires : goal.run_text-requires
run_text-requires c = record { labelled = c.requires.labelled; running = running-start c.requires.blank c.statement_offset-at.ensures (rw c.in-Ok.is at c.begin.ensures) c.fill.ensures }

pub returns-in-Err : goal.returns-in-Err
returns-in-Err c = verify-refused c.requires.blank c.statement_offset-at.ensures (rw c.in-Err.is at c.begin.ensures)

pub shape_of-numbers-in-Ok : goal.shape_of-numbers-in-Ok
shape_of-numbers-in-Ok c = c.numbers-in-Ok-1.given ∙ c.numbers-1.given

pub returns-in-Ok : goal.returns-in-Ok
returns-in-Ok c = verify-text c.requires.blank c.statement_offset-at.ensures (rw c.in-Ok.is at c.begin.ensures) c.run_text.ensures
