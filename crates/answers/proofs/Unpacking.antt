-- Number, place and steps are read back from a packed answer, so that no two answers have the same one; and every number of an answer fits.
use Prim.Native.Nat.{ℕ, ◌≤◌, ◌<◌}
use mathlib.Core.Path.{◌≡◌, sym, ◌∙◌, ap}
use native.Mathlib.Omega.{arith}
use Rattle.frames.specs.Verdict.{number_of}
use Rattle.frames.specs.declared.Refusal.TheVariants as of-file
use Rattle.machine.specs.declared.Refusal.{Refusal}
use Rattle.machine.specs.declared.Refusal.TheVariants.{BadByte, ProofUnterminatedRoster, ProofMalformedVarint, ProofInvalidSave, ProofIncomplete, StepMissing, LocalLabelAmbiguous, LocalLabelDuplicate, ChainBackref, StepUsedBeforeDefinition, StepUsedAfterScope, StepOutOfRange, ProofUnderflow, BadExplicitLabel, DuplicateExplicitLabel, StepFloatWrongType, StepEssenWrongType, StepEssenWrong, ProofDvViolation, ProofExcessEnd, ProofNoSteps, ProofWrongTypeEnd, ProofWrongExprEnd, PoolFull, TooManyVariables, StackFull, PlacesFull}
use Rattle.machine.specs.Answer.{Answer, accepted, refused, turned_away, not_provable, refusal_number, number}
use Rattle.answers.specs.Packed.{packed_answer, number_in, place_in, steps_in}

module _ (n p s : ℕ) (number_fits : n < 256) (place-fits : p < 16777216) where
  pub number-back : number_in (packed_answer n p s) ≡ n
  unfolding number_in packed_answer
  number-back = omega arith

  pub place-back : place_in (packed_answer n p s) ≡ p
  unfolding place_in packed_answer
  place-back = omega arith

  pub steps_back : steps_in (packed_answer n p s) ≡ s
  unfolding steps_in packed_answer
  steps_back = omega arith

-- no two answers are packed alike
pub pack_one : (n p s n' p' s' : ℕ) → n < 256 → p < 16777216 → n' < 256 → p' < 16777216 → packed_answer n p s ≡ packed_answer n' p' s' → (n ≡ n') × ((p ≡ p') × (s ≡ s'))
pack_one n p s n' p' s' a b a' b' e = (
  sym (number-back n p s a b) ∙ (ap number_in e ∙ number-back n' p' s' a' b'),
  (
    sym (place-back n p s a b) ∙ (ap place_in e ∙ place-back n' p' s' a' b'),
    sym (steps_back n p s a b) ∙ (ap steps_in e ∙ steps_back n' p' s' a' b'),
  ),
)

-- a packed answer is a number of 64 bits
pub packed-fits : (n p s : ℕ) → n < 256 → p < 16777216 → s < 4294967296 → packed_answer n p s < 18446744073709551616
unfolding packed_answer
packed-fits n p s a b c = omega arith

-- every number of an answer fits
pub refusal-few : (why : Refusal) → refusal_number why ≤ 46
unfolding refusal_number
refusal-few BadByte = omega arith
refusal-few ProofUnterminatedRoster = omega arith
refusal-few ProofMalformedVarint = omega arith
refusal-few ProofInvalidSave = omega arith
refusal-few ProofIncomplete = omega arith
refusal-few StepMissing = omega arith
refusal-few LocalLabelAmbiguous = omega arith
refusal-few LocalLabelDuplicate = omega arith
refusal-few ChainBackref = omega arith
refusal-few StepUsedBeforeDefinition = omega arith
refusal-few StepUsedAfterScope = omega arith
refusal-few StepOutOfRange = omega arith
refusal-few ProofUnderflow = omega arith
refusal-few BadExplicitLabel = omega arith
refusal-few DuplicateExplicitLabel = omega arith
refusal-few StepFloatWrongType = omega arith
refusal-few StepEssenWrongType = omega arith
refusal-few StepEssenWrong = omega arith
refusal-few ProofDvViolation = omega arith
refusal-few ProofExcessEnd = omega arith
refusal-few ProofNoSteps = omega arith
refusal-few ProofWrongTypeEnd = omega arith
refusal-few ProofWrongExprEnd = omega arith
refusal-few PoolFull = omega arith
refusal-few TooManyVariables = omega arith
refusal-few StackFull = omega arith
refusal-few PlacesFull = omega arith

file-few : (why : Rattle.frames.specs.declared.Refusal.Refusal) → number_of why ≤ 7
file-few of-file.BadRecord = omega arith
file-few of-file.TooMany = omega arith
file-few of-file.BadSymbol = omega arith
file-few of-file.BadLabel = omega arith
file-few of-file.BadReference = omega arith
file-few of-file.BadFrame = omega arith
file-few of-file.NoProof = omega arith

pub number-few : (a : Answer) → number a < 256
unfolding number
number-few (accepted place steps consumed tree) = omega arith
number-few (refused why place steps) = omega (arith, refusal-few why)
number-few (turned_away why place) = omega (arith, file-few why)
number-few not_provable = omega arith
