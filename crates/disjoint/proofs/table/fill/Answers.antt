-- `disjoint::table::fill` meets its contract: after i pairs the table has those before the i-th (`Fills`).
use Rattle.frames.specs.Database.{statement_at}
use Rattle.disjoint.proofs.Filling.{fills-none, fills-next, fills-done}
use native.Mathlib.Omega.{arith}
use Rattle.disjoint.proofs.table.fill.Goals as goal

pub loop-i-init : goal.loop-i-init
loop-i-init c = fills-none c.args.numbers.now c.args.table.now

pub loop-i-preserved : goal.loop-i-preserved
loop-i-preserved c = let size = c.pairs-n.ensures.0 in fills-next (statement_at c.args.file.now c.args.at).pairs c.loop-i.i (omega arith) c.pair_of.ensures c.loop-i.invariant c.enter_pair.ensures

pub returns : goal.returns
returns c = let size = c.pairs-n.ensures.0 in fills-done (statement_at c.args.file.now c.args.at).pairs c.loop-i.i (omega arith) c.loop-i.invariant
