-- `ends::end::check_end` meets its contract: each of its three returns is one law of Finishing.antt.
use Rattle.ends.proofs.Finishing.{ends-none, ends-many, ends-one}
use native.Mathlib.Omega.{arith}
use Rattle.ends.proofs.end.check_end.Goals as goal

pub returns-then-depth-eq0 : goal.returns-then-depth-eq0
returns-then-depth-eq0 c = ends-none c.if-depth-eq0.true

pub returns-then-depth-gt1 : goal.returns-then-depth-gt1
returns-then-depth-gt1 c = ends-many (let more = c.if-depth-gt1.true in omega arith)

pub returns : goal.returns
returns c = ends-one (let some = c.if-depth-eq0.false in let few = c.if-depth-gt1.false in omega arith) c.row_at-row.ensures c.is_claim.ensures
