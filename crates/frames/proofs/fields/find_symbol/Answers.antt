-- `frames::fields::find_symbol` meets its contract: what the search finds, as a number of its own kind.
use Rattle.std.proofs.Common.{rules}
use Rattle.frames.specs.Database.{symbol_at}
use Rattle.frames.proofs.fields.find_symbol.Goals as goal

pub returns : goal.returns
unfolding symbol_at
returns c = search rules
