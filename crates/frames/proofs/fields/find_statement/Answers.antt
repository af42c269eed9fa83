-- `frames::fields::find_statement` meets its contract: what the search finds, as a number of its own kind.
use Rattle.std.proofs.Common.{rules}
use Rattle.frames.specs.Database.{statement_at}
use Rattle.frames.proofs.fields.find_statement.Goals as goal

pub returns : goal.returns
unfolding statement_at
returns c = search rules
