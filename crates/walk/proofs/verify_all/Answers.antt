-- `walk::verify_all` meets its contract: the answers are those of the file, and all that was lent is cleared.
use Rattle.bench.proofs.Checking.{zeros-same}
use mathlib.Core.Path.{◌∙◌}
use Rattle.walk.proofs.verify_all.Goals as goal

pub returns : goal.returns
returns c = record { answered = c.walk_file-walked.ensures; zeroed = record { pool_zero = c.clear.ensures ∙ zeros-same c.pool-1.given; stack_zero = c.clear-2.ensures ∙ zeros-same c.stack-1.given; places_zero = c.clear-3.ensures ∙ zeros-same c.places-1.given } }
