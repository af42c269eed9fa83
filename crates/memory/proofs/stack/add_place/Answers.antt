-- `memory::stack::add_place` meets its contract.
use Rattle.memory.proofs.Stored.{place-fits, place-full}
use native.Mathlib.Omega.{arith}
use Rattle.memory.proofs.stack.add_place.Goals as goal

pub returns-then-limit-next : goal.returns-then-limit-next
returns-then-limit-next c = place-full c.args.places.now c.args.c c.args.limit c.args.row c.if-limit-next.true

pub returns : goal.returns
returns c = place-fits c.args.places.now c.args.c c.args.limit c.args.row (omega arith) c.put_row.ensures
