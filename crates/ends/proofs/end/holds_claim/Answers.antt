-- `ends::end::holds_claim` meets its contract: the row is compared (`holds_read`), or its range is not within the pool.
use Rattle.ends.proofs.Finishing.{holds_read}
use Rattle.ends.proofs.end.holds_claim.Goals as goal

pub returns-then-row-pool : goal.returns-then-row-pool
returns-then-row-pool c = holds_read c.raw_eq.ensures.lists
