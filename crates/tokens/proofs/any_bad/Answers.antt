-- `tokens::any_bad` meets its contract: the chain asks each byte until one is bad (`list_any-any`).
use mathlib.Core.Path.{◌∙◌}
use Rattle.std.proofs.Common.{rules, tests}
use Rattle.std.proofs.lemmas.Iterator.{YieldsList-from_slice}
use Rattle.std.proofs.lemmas.Iterator.Search.{any_from_yields_List}
use Rattle.frames.proofs.Words.{list_any-any}
use Rattle.machine.specs.Reading.{bad_byte}
use Rattle.tokens.proofs.any_bad.Goals as goal

pub returns : goal.returns
returns c =
    any_from_yields_List bad_byte _ _ c.any.result c.any.ensures.ran (YieldsList-from_slice c.args.text.now cc) (λ x b q k. search (rules, tests))
    ∙ list_any-any bad_byte c.args.text.now
