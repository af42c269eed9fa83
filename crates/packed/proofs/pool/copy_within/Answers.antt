-- `packed::pool::copy_within` meets its contract: the range stands at its new place (`copied-within`).
use mathlib.Core.Path.{◌∙◌}
use native.Mathlib.Omega.{arith}
use Rattle.packed.proofs.Written.{copied-within}
use Rattle.packed.proofs.pool.copy_within.Goals as goal

pub returns : goal.returns
returns c = let a = c.args in c.copy_within.ensures.after ∙ copied-within a.from a.to a.at a.pool.now (omega arith) (omega arith)
