-- `resolve::labels::is_listed` meets its contract: the chain asks each listed hypothesis, by its index (`any-indexed`).
use mathlib.Core.Path.{◌∙◌, refl}
use Rattle.std.proofs.Common.{rules, tests, length, get_or, arith}
use Rattle.std.proofs.lemmas.Iterator.{YieldsList-from_range}
use Rattle.std.proofs.lemmas.Iterator.Search.{any_from_yields_List}
use Rattle.frames.proofs.Words.{any-indexed}
use Rattle.frames.specs.Database.{statement_at}
use Rattle.frames.specs.Logic.{equal}
use Rattle.machine.specs.Ground.{among}
use Rattle.resolve.proofs.labels.is_listed.Goals as goal

pub returns : goal.returns
unfolding among equal
returns c =
    let hs = (statement_at c.args.file.now c.args.at).hyps in
    any_from_yields_List (λ i. equal c.args.h.0 (get_or hs i 0)) _ _ c.any.result c.any.ensures.ran (YieldsList-from_range 0 c.hypotheses.result (length hs) refl (omega (arith, c.hypotheses.ensures.0))) (λ x b q k. search (rules, tests, k)) ∙ any-indexed (equal c.args.h.0) hs 0
