-- `tokens::parts::has_mark` meets its contract: there is a mark where there is a `=` (`mark-there`).
use Rattle.tokens.proofs.Halves.{first-at}
use Rattle.tokens.proofs.Split.{mark-there}
use Rattle.tokens.proofs.parts.has_mark.Goals as goal

pub returns : goal.returns
returns c = mark-there (first-at _ c.requires)
