-- `engine::place::run_unmarked` meets its contract, by the laws that `run_place` has: 31, or the place recalls, or it names an assertion.
use Rattle.engine.proofs.Placed.{runs-applied, runs-out, runs-recalled}
use native.Mathlib.Omega.{arith}
use Rattle.engine.proofs.place.run_unmarked.Goals as goal

pub returns-then-c-n : goal.returns-then-c-n
returns-then-c-n c = runs-out c.requires.ranged.0.0.0 c.if-c-n.true

pub push-requires : goal.push-requires
push-requires c = c.requires.used_le_pool.1

pub returns-then-row-eq0 : goal.returns-then-row-eq0
returns-then-row-eq0 c = runs-recalled (omega (arith, c.if-c-n.false)) c.row_at-row.ensures c.if-row-eq0.true c.requires.ranged.0.0.0 (rw c.marked.ensures at c.push.ensures)

pub execute_step-requires : goal.execute_step-requires
execute_step-requires c = record { used_le_pool = c.requires.used_le_pool; ranged = c.requires.ranged.0; recorded = c.requires.recorded }

pub returns : goal.returns
returns c = runs-applied (omega (arith, c.if-c-n.false)) c.row_at-row.ensures c.if-row-eq0.false c.execute_step.ensures
