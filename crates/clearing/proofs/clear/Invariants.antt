-- `clearing::clear` meets its contract: the elements before the index are `zero`, and after them stands what stood there.
use Rattle.std.proofs.Common.{◌≡◌, replicate, drop, ◌++◌}
use Rattle.clearing.proofs.clear.Given as goal

abbrev pub invariant-loop-i : goal.invariant-loop-i
invariant-loop-i g l = l.lent ≡ replicate l.i l.zero ++ drop l.i l.initial.lent
