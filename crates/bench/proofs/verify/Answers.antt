-- `verify` meets its contract: the answer is that of the file, and all that was lent is cleared.
use mathlib.Core.Path.{◌∙◌}
use Rattle.bench.proofs.Checking.{zeros-same}
use Rattle.bench.proofs.verify.Goals as goal

pub returns : goal.returns
returns c = record { says = c.verify_file-told.ensures; zeroed = record { pool_zero = c.clear.ensures ∙ zeros-same c.pool-1.given; stack_zero = c.clear-2.ensures ∙ zeros-same c.stack-1.given; places_zero = c.clear-3.ensures ∙ zeros-same c.places-1.given } }
