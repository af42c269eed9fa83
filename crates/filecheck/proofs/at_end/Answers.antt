-- `filecheck::at_end` meets its contract: each return is the case of the definition that the tests on the way to it pick.
use Rattle.frames.proofs.Chains.{pick_first, pick_second}
use Rattle.frames.specs.Verdict.{end_verdict}
use mathlib.Core.Path.{refl}
use Rattle.filecheck.proofs.at_end.Goals as goal

pub returns-then-st : goal.returns-then-st
unfolding end_verdict
returns-then-st c = pick_first _ c.if-st.true refl

pub returns : goal.returns
unfolding end_verdict
returns c = pick_second _ c.if-st.false refl
