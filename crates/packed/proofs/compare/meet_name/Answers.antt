-- `packed::compare::meet_name` meets its contract: the text is too long, or the test of as many bytes decides (`meet-short`, `meet-yes`, `meet-no`).
use Rattle.packed.proofs.Comparing.{meet-no, meet-short, meet-yes}
use Rattle.packed.proofs.Packs.{ended-length}
use Rattle.packed.specs.Packing.{ended}
use lib.ListN.{length}
use native.Mathlib.Omega.{arith}
use Rattle.packed.proofs.compare.meet_name.Goals as goal

pub returns-then-to-at : goal.returns-then-to-at
returns-then-to-at c =
    let a = c.args in
    meet-short (ended a.name.now) a.at a.to (length a.name.now) a.pool.now (ended-length a.name.now) (omega arith) (omega arith) (omega arith)

pub returns-then-matches_name : goal.returns-then-matches_name
returns-then-matches_name c =
    let a = c.args in
    meet-yes (ended a.name.now) a.at a.to (length a.name.now) a.pool.now (ended-length a.name.now) (omega arith) (cc)

pub returns : goal.returns
returns c =
    let a = c.args in
    meet-no (ended a.name.now) a.at a.to (length a.name.now) a.pool.now (ended-length a.name.now) (omega arith) (cc)
