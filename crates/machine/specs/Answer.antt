-- What the bench answers: number, place and steps. An acceptance also holds the tree of the derivation that the run built and how many
-- hypotheses its steps consumed; a caller sees neither.
use Rattle.std.specs.Prelude.{ℕ}
use Rattle.book.specs.Book.{Tree}
use Rattle.frames.specs.Verdict.{number_of}
use Rattle.machine.specs.declared.Refusal.{Refusal}
use Rattle.machine.specs.declared.Refusal.TheVariants.{BadByte, ProofUnterminatedRoster, ProofMalformedVarint, ProofInvalidSave, ProofIncomplete, StepMissing, LocalLabelAmbiguous, LocalLabelDuplicate, ChainBackref, StepUsedBeforeDefinition, StepUsedAfterScope, StepOutOfRange, ProofUnderflow, BadExplicitLabel, DuplicateExplicitLabel, StepFloatWrongType, StepEssenWrongType, StepEssenWrong, ProofDvViolation, ProofExcessEnd, ProofNoSteps, ProofWrongTypeEnd, ProofWrongExprEnd, PoolFull, TooManyVariables, StackFull, PlacesFull}

-- the paper's number of each refusal of a proof
unfoldable pub refusal_number : Refusal → ℕ
refusal_number BadByte = 20
refusal_number ProofUnterminatedRoster = 21
refusal_number ProofMalformedVarint = 22
refusal_number ProofInvalidSave = 23
refusal_number ProofIncomplete = 24
refusal_number StepMissing = 25
refusal_number LocalLabelAmbiguous = 26
refusal_number LocalLabelDuplicate = 27
refusal_number ChainBackref = 28
refusal_number StepUsedBeforeDefinition = 29
refusal_number StepUsedAfterScope = 30
refusal_number StepOutOfRange = 31
refusal_number ProofUnderflow = 32
refusal_number BadExplicitLabel = 33
refusal_number DuplicateExplicitLabel = 34
refusal_number StepFloatWrongType = 35
refusal_number StepEssenWrongType = 36
refusal_number StepEssenWrong = 37
refusal_number ProofDvViolation = 38
refusal_number ProofExcessEnd = 39
refusal_number ProofNoSteps = 40
refusal_number ProofWrongTypeEnd = 41
refusal_number ProofWrongExprEnd = 42
refusal_number PoolFull = 43
refusal_number TooManyVariables = 44
refusal_number StackFull = 45
refusal_number PlacesFull = 46

-- the answer: the proof is accepted; it is refused; the file is turned away (1 to 7); the statement is no $p (8)
pub data Answer : Type 0 where
  accepted : (place steps consumed : ℕ) → Tree → Answer
  refused : Refusal → (place steps : ℕ) → Answer
  turned_away : Rattle.frames.specs.declared.Refusal.Refusal → (place : ℕ) → Answer
  not_provable : Answer

unfoldable pub number : Answer → ℕ
number (accepted place steps consumed tree) = 0
number (refused why place steps) = refusal_number why
number (turned_away why place) = number_of why
number not_provable = 8

unfoldable pub place : Answer → ℕ
place (accepted at steps consumed tree) = at
place (refused why at steps) = at
place (turned_away why at) = at
place not_provable = 0

unfoldable pub steps : Answer → ℕ
steps (accepted at completed consumed tree) = completed
steps (refused why at completed) = completed
steps (turned_away why at) = 0
steps not_provable = 0
