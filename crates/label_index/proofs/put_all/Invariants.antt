-- `label_index::put_all` meets its contract. The invariant: the table is the index of the statements so far (`LabelledTo`).
use Rattle.label_index.specs.Labelled.{LabelledTo}
use Rattle.label_index.proofs.put_all.Given as goal

abbrev pub invariant-loop-i : goal.invariant-loop-i
invariant-loop-i l = LabelledTo l.file l.statements l.labels l.i
