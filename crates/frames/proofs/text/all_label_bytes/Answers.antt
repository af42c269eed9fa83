-- `frames::text::all_label_bytes` meets its contract: the chain asks each byte of the list (`list_all-all`).
use mathlib.Core.Path.{◌∙◌}
use Rattle.std.proofs.Common.{rules, tests}
use Rattle.std.proofs.lemmas.Iterator.{YieldsList-from_slice}
use Rattle.std.proofs.lemmas.Iterator.Search.{all_from_yields_List}
use Rattle.frames.specs.Table.{label_byte}
use Rattle.frames.proofs.Words.{list_all-all}
use Rattle.frames.proofs.text.all_label_bytes.Goals as goal

pub returns : goal.returns
returns c =
    all_from_yields_List label_byte _ _ c.all.result c.all.ensures.ran (YieldsList-from_slice c.args.label.now cc) (λ x b q k. search (rules, tests))
    ∙ list_all-all label_byte c.args.label.now
