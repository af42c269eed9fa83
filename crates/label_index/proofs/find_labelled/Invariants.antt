-- `label_index::find_labelled` meets its contract. The invariant: no statement from the word at hand on bears the label (`Sought`). The word falls.
use Rattle.label_index.proofs.Chain.{Sought}
use Rattle.label_index.proofs.find_labelled.Given as goal

abbrev pub invariant-loop-word : goal.invariant-loop-word
invariant-loop-word l = Sought l.file l.statements l.label l.word

abbrev pub decreases-loop-word : goal.decreases-loop-word
decreases-loop-word l = l.word
