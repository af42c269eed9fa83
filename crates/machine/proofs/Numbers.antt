-- Which numbers come out: 0, 1 to 8, and 20 to 46, and no other.
use Prim.Native.Nat.{◌≤◌}
use mathlib.Core.Path.{◌≡◌, refl}
use mathlib.Core.Logic.{◌⊎◌, inl, inr}
use native.Mathlib.Omega.{arith}
use Rattle.frames.specs.Verdict.{number_of}
use Rattle.frames.specs.declared.Refusal.TheVariants.{BadRecord, TooMany, BadSymbol, BadLabel, BadReference, BadFrame, NoProof}
use Rattle.machine.specs.declared.Refusal.{Refusal}
use Rattle.machine.specs.declared.Refusal.TheVariants.{BadByte, ProofUnterminatedRoster, ProofMalformedVarint, ProofInvalidSave, ProofIncomplete, StepMissing, LocalLabelAmbiguous, LocalLabelDuplicate, ChainBackref, StepUsedBeforeDefinition, StepUsedAfterScope, StepOutOfRange, ProofUnderflow, BadExplicitLabel, DuplicateExplicitLabel, StepFloatWrongType, StepEssenWrongType, StepEssenWrong, ProofDvViolation, ProofExcessEnd, ProofNoSteps, ProofWrongTypeEnd, ProofWrongExprEnd, PoolFull, TooManyVariables, StackFull, PlacesFull}
use Rattle.machine.specs.Answer.{Answer, accepted, refused, turned_away, not_provable, number, refusal_number}

-- the numbers of refusals are 20 to 46, those of the file check 1 to 7
pub refusal-number : (why : Refusal) → (20 ≤ refusal_number why) × (refusal_number why ≤ 46)
unfolding refusal_number
refusal-number BadByte = (omega arith, omega arith)
refusal-number ProofUnterminatedRoster = (omega arith, omega arith)
refusal-number ProofMalformedVarint = (omega arith, omega arith)
refusal-number ProofInvalidSave = (omega arith, omega arith)
refusal-number ProofIncomplete = (omega arith, omega arith)
refusal-number StepMissing = (omega arith, omega arith)
refusal-number LocalLabelAmbiguous = (omega arith, omega arith)
refusal-number LocalLabelDuplicate = (omega arith, omega arith)
refusal-number ChainBackref = (omega arith, omega arith)
refusal-number StepUsedBeforeDefinition = (omega arith, omega arith)
refusal-number StepUsedAfterScope = (omega arith, omega arith)
refusal-number StepOutOfRange = (omega arith, omega arith)
refusal-number ProofUnderflow = (omega arith, omega arith)
refusal-number BadExplicitLabel = (omega arith, omega arith)
refusal-number DuplicateExplicitLabel = (omega arith, omega arith)
refusal-number StepFloatWrongType = (omega arith, omega arith)
refusal-number StepEssenWrongType = (omega arith, omega arith)
refusal-number StepEssenWrong = (omega arith, omega arith)
refusal-number ProofDvViolation = (omega arith, omega arith)
refusal-number ProofExcessEnd = (omega arith, omega arith)
refusal-number ProofNoSteps = (omega arith, omega arith)
refusal-number ProofWrongTypeEnd = (omega arith, omega arith)
refusal-number ProofWrongExprEnd = (omega arith, omega arith)
refusal-number PoolFull = (omega arith, omega arith)
refusal-number TooManyVariables = (omega arith, omega arith)
refusal-number StackFull = (omega arith, omega arith)
refusal-number PlacesFull = (omega arith, omega arith)

pub file-number : (why : Rattle.frames.specs.declared.Refusal.Refusal) → (1 ≤ number_of why) × (number_of why ≤ 7)
file-number BadRecord = (omega arith, omega arith)
file-number TooMany = (omega arith, omega arith)
file-number BadSymbol = (omega arith, omega arith)
file-number BadLabel = (omega arith, omega arith)
file-number BadReference = (omega arith, omega arith)
file-number BadFrame = (omega arith, omega arith)
file-number NoProof = (omega arith, omega arith)

pub number-range : (a : Answer) → (number a ≡ 0) ⊎ (((1 ≤ number a) × (number a ≤ 8)) ⊎ ((20 ≤ number a) × (number a ≤ 46)))
unfolding number
number-range (accepted place steps consumed tree) = inl refl
number-range (refused why place steps) = inr (inr (refusal-number why))
number-range (turned_away why place) = let r = file-number why in inr (inl (omega arith, omega arith))
number-range not_provable = inr (inl (omega arith, omega arith))
