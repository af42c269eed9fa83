-- `proving::prove` meets its contract: our tables are cleared, then the proof is run.
use mathlib.Core.Path.{◌∙◌}
use native.Mathlib.Omega.{arith}
use Rattle.proving.proofs.Preparing.{blank}
use Rattle.proving.proofs.prove.Goals as goal

pub verify_proof-requires : goal.verify_proof-requires
verify_proof-requires c = record { labelled = c.requires.labelled; blank = blank _ _ _ _ _ _ _ _ _ _ _ _ _ _ _ _ c.requires.filed c.requires.asked c.requires.cut (omega (arith, c.requires.entries)) c.clear.ensures c.clear-2.ensures c.clear-3.ensures c.clear-4.ensures c.limits_of-limits.ensures }

pub shape_of-table : goal.shape_of-table
shape_of-table c = c.table-2-1.given ∙ c.table-1.given

pub shape_of-froms : goal.shape_of-froms
shape_of-froms c = c.froms-2-1.given ∙ c.froms-1.given

pub shape_of-tos : goal.shape_of-tos
shape_of-tos c = c.tos-2-1.given ∙ c.tos-1.given

pub returns : goal.returns
returns c = rw c.limits_of-limits.ensures at c.verify_proof.ensures
