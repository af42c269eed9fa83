-- `label_index::fill` meets its contract: a cleared table is the index of no statements (`labelled-none`).
use mathlib.Core.Path.{◌∙◌}
use Rattle.clearing.proofs.Clearing.{cleared-zeros}
use Rattle.label_index.proofs.Chain.{labelled-none}
use Rattle.label_index.proofs.fill.Goals as goal

pub put_all-requires : goal.put_all-requires
put_all-requires c = record { labelled_to = labelled-none c.args.file.now c.args.statements.now (c.labels-1.given ∙ c.requires.labels_len) (cleared-zeros c.args.labels.now c.clear.ensures); statements_len_bound = c.requires.statements_len_bound }
