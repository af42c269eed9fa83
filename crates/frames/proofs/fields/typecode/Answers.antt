-- `frames::fields::typecode` meets its contract: that of a $f lies at a fixed offset, any other is read by the reader below it.
use mathlib.Core.Path.{sym, ◌∙◌}
use Rattle.frames.specs.Database.{statement_at}
use Rattle.frames.proofs.Listing.{float-first}
use Rattle.frames.proofs.fields.typecode.Goals as goal

pub returns-then-kind_at-eq2 : goal.returns-then-kind_at-eq2
unfolding statement_at
returns-then-kind_at-eq2 c = float-first _ _ (sym c.kind_at.ensures.0 ∙ c.if-kind_at-eq2.true) c.u16_at.ensures.0

pub returns-else-kind_at-eq2 : goal.returns-else-kind_at-eq2
unfolding statement_at
returns-else-kind_at-eq2 c = c.symbol.ensures
