-- `apply::step::apply_checked` meets its contract: 38 where a pair is not kept, else the claim.
use Rattle.apply.proofs.Steps.{checked-broken, checked-kept}
use Rattle.apply.proofs.step.apply_checked.Goals as goal

pub finalize_step-requires : goal.finalize_step-requires
finalize_step-requires c = record { used_le_pool = c.requires.used_le_pool; ranged = c.requires.ranged }

pub returns-then-keeps_pairs : goal.returns-then-keeps_pairs
returns-then-keeps_pairs c = checked-kept (rw c.if-keeps_pairs.true at c.keeps_pairs.ensures.lists) c.finalize_step.ensures

pub returns : goal.returns
returns c = checked-broken (rw c.if-keeps_pairs.false at c.keeps_pairs.ensures.lists)
