-- `frames::fields::variable` meets its contract: that of a $f lies at a fixed offset, any other is read by the reader below it.
use mathlib.Core.Path.{sym, ◌∙◌}
use Rattle.frames.specs.Database.{statement_at}
use Rattle.frames.proofs.Listing.{float-second}
use Rattle.frames.proofs.fields.variable.Goals as goal

pub returns-then-kind_at-eq2 : goal.returns-then-kind_at-eq2
unfolding statement_at
returns-then-kind_at-eq2 c = float-second _ _ (sym c.kind_at.ensures.0 ∙ c.if-kind_at-eq2.true) c.u16_at.ensures.0

pub returns-else-kind_at-eq2 : goal.returns-else-kind_at-eq2
unfolding statement_at
returns-else-kind_at-eq2 c = c.symbol.ensures
