-- `sizes::measure_one` meets its contract. The invariant: what is summed so far and the words that are left make the size of the application (`Summed`).
use Rattle.sizes.proofs.Passing.{Summed}
use Rattle.sizes.proofs.measure_one.Given as goal

abbrev pub invariant-loop-i : goal.invariant-loop-i
invariant-loop-i l = Summed l.file l.tree l.sizes l.from l.n l.sum l.i
