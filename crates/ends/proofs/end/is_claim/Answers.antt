-- `ends::end::is_claim` meets its contract: another typecode (`claim-other`), or the same and its symbols compared (`claim-alike`).
use Rattle.ends.proofs.Finishing.{claim-other, claim-alike}
use Rattle.frames.specs.Logic.{pick}
use Rattle.ends.proofs.end.is_claim.Goals as goal

pub returns-then-row-typecode : goal.returns-then-row-typecode
returns-then-row-typecode c = claim-other c.args.file.now c.args.at c.args.row c.typecode-typecode.ensures c.if-row-typecode.true

pub returns-then-holds_claim : goal.returns-then-holds_claim
unfolding pick
returns-then-holds_claim c = claim-alike c.args.file.now c.args.at c.args.row c.typecode-typecode.ensures c.if-row-typecode.false (rw c.if-holds_claim.true at c.holds_claim.ensures)

pub returns : goal.returns
unfolding pick
returns c = claim-alike c.args.file.now c.args.at c.args.row c.typecode-typecode.ensures c.if-row-typecode.false (rw c.if-holds_claim.false at c.holds_claim.ensures)
