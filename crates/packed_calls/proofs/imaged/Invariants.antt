-- `packed_calls::imaged` meets its contract: the loop stops at the first symbol that fails. The invariant: the test of what is left is the test of all
-- (`PassedTo`).
use Rattle.frames.specs.Layout.{symbols_at}
use Rattle.packed_calls.specs.Answers.{image_within}
use Rattle.packed_calls.proofs.Ranges.{PassedTo}
use Rattle.packed_calls.proofs.imaged.Given as goal

abbrev pub invariant-loop-i : goal.invariant-loop-i
invariant-loop-i l = PassedTo (image_within l.file l.symbols l.froms l.tos l.used) (symbols_at l.file l.at) l.i
