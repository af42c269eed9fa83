-- `sizes::measure_to` meets its contract. The invariant: what is left of the pass takes the table so far on to the whole table (`Passed`). Each turn moves on.
use Prim.Native.Nat.{◌-◌}
use Rattle.sizes.proofs.Passing.{Passed}
use Rattle.sizes.proofs.measure_to.Given as goal

abbrev pub invariant-loop-at : goal.invariant-loop-at
invariant-loop-at l = Passed l.file l.tree l.n l.initial.sizes l.sizes l.at

abbrev pub decreases-loop-at : goal.decreases-loop-at
decreases-loop-at l = l.n - l.at
