-- `memory::stack::push` meets its contract.
use Rattle.memory.proofs.Stored.{push-fits, push-full}
use native.Mathlib.Omega.{arith}
use Rattle.memory.proofs.stack.push.Goals as goal

pub returns-then-limit-left : goal.returns-then-limit-left
returns-then-limit-left c = push-full c.args.stack.now c.args.c c.args.limit c.args.left c.args.row c.if-limit-left.true

pub returns : goal.returns
returns c = push-fits c.args.stack.now c.args.c c.args.limit c.args.left c.args.row (omega arith) c.put_row.ensures
