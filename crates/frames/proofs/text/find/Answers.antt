-- `frames::text::find` meets its contract: the loop stops at the first record that bears the text. The invariant: none so far does (`AnySoFar`).
use Rattle.frames.proofs.Found.{same_true}
use Rattle.frames.proofs.Loops.{any-done, any-more, any_none, here-list}
use Rattle.frames.specs.Table.{named, used}
use mathlib.Core.Path.{sym}
use native.Mathlib.Omega.{arith}
use Rattle.frames.proofs.text.find.Goals as goal

pub loop-i-init : goal.loop-i-init
loop-i-init c = let a = c.args in any_none (named a.file.now a.text.now) a.offsets.now

pub returns-then-same_bytes : goal.returns-then-same_bytes
returns-then-same_bytes c = (omega arith, same_true _ _ (cc))

pub loop-i-preserved : goal.loop-i-preserved
unfolding named
loop-i-preserved c = any-more c.loop-i.invariant (here-list c.args.offsets.now c.loop-i.i 0 (omega arith)) (cc)

pub returns : goal.returns
unfolding used
returns c = sym (any-done c.loop-i.invariant (omega arith))
