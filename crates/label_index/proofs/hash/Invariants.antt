-- `label_index::hash` meets its contract. The invariant: what is left of the label takes the hash so far on to the whole hash (`HashedTo`).
use Rattle.label_index.proofs.Chain.{HashedTo}
use Rattle.label_index.proofs.hash.Given as goal

abbrev pub invariant-loop-b : goal.invariant-loop-b
invariant-loop-b l = HashedTo l.label l.b-index l.h
