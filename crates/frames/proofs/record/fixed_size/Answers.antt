-- `frames::record::fixed_size` meets its contract: the code's table is the definition's list, and no entry is above 8 (`fixed-small`).
use mathlib.Core.Path.{◌≡◌}
use borrow.Author.Rules.{rules}
use Rattle.frames.proofs.Parts.{fixed-small}
use Rattle.frames.specs.Layout.{fixed_size}
use Rattle.frames.proofs.record.fixed_size.Goals as goal

pub returns : goal.returns
unfolding fixed_size
returns c = let e : c.unwrap_or.result ≡ fixed_size c.args.kind = search rules in (e, rw e (fixed-small c.args.kind))
