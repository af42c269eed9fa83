-- `frames::text::find` meets its contract: the loop stops at the first record that bears the text. The invariant: none so far does (`AnySoFar`).
use Rattle.frames.proofs.Loops.{AnySoFar}
use Rattle.frames.specs.Table.{named}
use Rattle.frames.proofs.text.find.Given as goal

abbrev pub invariant-loop-i : goal.invariant-loop-i
invariant-loop-i l = AnySoFar (named l.file l.text) l.offsets l.i
