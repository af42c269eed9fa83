-- `memory::stack::save_top` meets its contract: with no entry it is 23 (`saves-none`), else the top takes a place (`saves-top`).
use Rattle.memory.proofs.Saving.{saves-none, saves-top}
use native.Mathlib.Omega.{arith}
use Rattle.memory.proofs.stack.save_top.Goals as goal

pub returns-then-depth-eq0 : goal.returns-then-depth-eq0
returns-then-depth-eq0 c = saves-none c.args.c c.if-depth-eq0.true

pub returns : goal.returns
returns c = saves-top c.args.c (let n = c.if-depth-eq0.false in omega arith) c.row_at-row.ensures c.requires.0.0 (rw c.saved.ensures at c.add_place.ensures)
