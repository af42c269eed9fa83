-- `answers::refusal_number` meets its contract: each arm is its row of `refusal_number`.
use mathlib.Core.Path.{sym, ap}
use Rattle.machine.specs.Answer.{refusal_number}
use Rattle.answers.proofs.refusal_number.Goals as goal

pub returns-in-BadByte : goal.returns-in-BadByte
unfolding refusal_number
returns-in-BadByte c = sym (ap refusal_number c.in-BadByte.is)

pub returns-in-ProofUnterminatedRoster : goal.returns-in-ProofUnterminatedRoster
unfolding refusal_number
returns-in-ProofUnterminatedRoster c = sym (ap refusal_number c.in-ProofUnterminatedRoster.is)

pub returns-in-ProofMalformedVarint : goal.returns-in-ProofMalformedVarint
unfolding refusal_number
returns-in-ProofMalformedVarint c = sym (ap refusal_number c.in-ProofMalformedVarint.is)

pub returns-in-ProofInvalidSave : goal.returns-in-ProofInvalidSave
unfolding refusal_number
returns-in-ProofInvalidSave c = sym (ap refusal_number c.in-ProofInvalidSave.is)

pub returns-in-ProofIncomplete : goal.returns-in-ProofIncomplete
unfolding refusal_number
returns-in-ProofIncomplete c = sym (ap refusal_number c.in-ProofIncomplete.is)

pub returns-in-StepMissing : goal.returns-in-StepMissing
unfolding refusal_number
returns-in-StepMissing c = sym (ap refusal_number c.in-StepMissing.is)

pub returns-in-LocalLabelAmbiguous : goal.returns-in-LocalLabelAmbiguous
unfolding refusal_number
returns-in-LocalLabelAmbiguous c = sym (ap refusal_number c.in-LocalLabelAmbiguous.is)

pub returns-in-LocalLabelDuplicate : goal.returns-in-LocalLabelDuplicate
unfolding refusal_number
returns-in-LocalLabelDuplicate c = sym (ap refusal_number c.in-LocalLabelDuplicate.is)

pub returns-in-ChainBackref : goal.returns-in-ChainBackref
unfolding refusal_number
returns-in-ChainBackref c = sym (ap refusal_number c.in-ChainBackref.is)

pub returns-in-StepUsedBeforeDefinition : goal.returns-in-StepUsedBeforeDefinition
unfolding refusal_number
returns-in-StepUsedBeforeDefinition c = sym (ap refusal_number c.in-StepUsedBeforeDefinition.is)

pub returns-in-StepUsedAfterScope : goal.returns-in-StepUsedAfterScope
unfolding refusal_number
returns-in-StepUsedAfterScope c = sym (ap refusal_number c.in-StepUsedAfterScope.is)

pub returns-in-StepOutOfRange : goal.returns-in-StepOutOfRange
unfolding refusal_number
returns-in-StepOutOfRange c = sym (ap refusal_number c.in-StepOutOfRange.is)

pub returns-in-ProofUnderflow : goal.returns-in-ProofUnderflow
unfolding refusal_number
returns-in-ProofUnderflow c = sym (ap refusal_number c.in-ProofUnderflow.is)

pub returns-in-BadExplicitLabel : goal.returns-in-BadExplicitLabel
unfolding refusal_number
returns-in-BadExplicitLabel c = sym (ap refusal_number c.in-BadExplicitLabel.is)

pub returns-in-DuplicateExplicitLabel : goal.returns-in-DuplicateExplicitLabel
unfolding refusal_number
returns-in-DuplicateExplicitLabel c = sym (ap refusal_number c.in-DuplicateExplicitLabel.is)

pub returns-in-StepFloatWrongType : goal.returns-in-StepFloatWrongType
unfolding refusal_number
returns-in-StepFloatWrongType c = sym (ap refusal_number c.in-StepFloatWrongType.is)

pub returns-in-StepEssenWrongType : goal.returns-in-StepEssenWrongType
unfolding refusal_number
returns-in-StepEssenWrongType c = sym (ap refusal_number c.in-StepEssenWrongType.is)

pub returns-in-StepEssenWrong : goal.returns-in-StepEssenWrong
unfolding refusal_number
returns-in-StepEssenWrong c = sym (ap refusal_number c.in-StepEssenWrong.is)

pub returns-in-ProofDvViolation : goal.returns-in-ProofDvViolation
unfolding refusal_number
returns-in-ProofDvViolation c = sym (ap refusal_number c.in-ProofDvViolation.is)

pub returns-in-ProofExcessEnd : goal.returns-in-ProofExcessEnd
unfolding refusal_number
returns-in-ProofExcessEnd c = sym (ap refusal_number c.in-ProofExcessEnd.is)

pub returns-in-ProofNoSteps : goal.returns-in-ProofNoSteps
unfolding refusal_number
returns-in-ProofNoSteps c = sym (ap refusal_number c.in-ProofNoSteps.is)

pub returns-in-ProofWrongTypeEnd : goal.returns-in-ProofWrongTypeEnd
unfolding refusal_number
returns-in-ProofWrongTypeEnd c = sym (ap refusal_number c.in-ProofWrongTypeEnd.is)

pub returns-in-ProofWrongExprEnd : goal.returns-in-ProofWrongExprEnd
unfolding refusal_number
returns-in-ProofWrongExprEnd c = sym (ap refusal_number c.in-ProofWrongExprEnd.is)

pub returns-in-PoolFull : goal.returns-in-PoolFull
unfolding refusal_number
returns-in-PoolFull c = sym (ap refusal_number c.in-PoolFull.is)

pub returns-in-TooManyVariables : goal.returns-in-TooManyVariables
unfolding refusal_number
returns-in-TooManyVariables c = sym (ap refusal_number c.in-TooManyVariables.is)

pub returns-in-StackFull : goal.returns-in-StackFull
unfolding refusal_number
returns-in-StackFull c = sym (ap refusal_number c.in-StackFull.is)

pub returns-in-PlacesFull : goal.returns-in-PlacesFull
unfolding refusal_number
returns-in-PlacesFull c = sym (ap refusal_number c.in-PlacesFull.is)
