-- `tokens::parts::has_local` meets its contract: there is a local label where there is a `:` (`local-there`).
use Rattle.tokens.proofs.Halves.{first-at}
use Rattle.tokens.proofs.Split.{local-there}
use Rattle.tokens.proofs.parts.has_local.Goals as goal

pub returns : goal.returns
returns c = local-there (first-at _ c.requires)
