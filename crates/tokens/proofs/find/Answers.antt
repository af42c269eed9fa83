-- `tokens::find` meets its contract: the chain finds the first of the sign (`found-sign`).
use mathlib.Core.Path.{◌∙◌}
use lib.Dec.{eqb}
use Rattle.std.proofs.Common.{rules, tests}
use Rattle.std.proofs.lemmas.Iterator.{YieldsList-from_slice}
use Rattle.std.proofs.lemmas.Iterator.Search.{position_from_yields_List}
use Rattle.tokens.proofs.Signs.{found-sign}
use Rattle.tokens.proofs.find.Goals as goal

pub returns : goal.returns
returns c =
    let sign = c.args.sign in
    c.unwrap_or.ensures
    ∙ found-sign sign c.args.token.now
    (position_from_yields_List (λ b. eqb b sign) _ _ c.position.result c.position.ensures.ran (YieldsList-from_slice c.args.token.now cc) (λ x b q k. search (rules, tests)))
