use Rattle.recording.specs.Notes.{PutsNodes}
use Rattle.recording.proofs.put_nodes.Given as goal

abbrev pub invariant-loop-j : goal.invariant-loop-j
invariant-loop-j l = PutsNodes l.stack l.base l.seats l.j l.initial.tree l.from l.tree
