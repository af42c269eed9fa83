-- `packed::pool::put_text` meets its contract: after i bytes the pool has the first i bytes of the text (`Copied`).
use Rattle.packed.proofs.Copies.{Copied}
use Rattle.packed.proofs.pool.put_text.Given as goal

abbrev pub invariant-loop-i : goal.invariant-loop-i
invariant-loop-i l = Copied l.text l.at l.initial.pool l.i l.pool
