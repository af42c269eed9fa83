-- What preparing a step comes to.
use Rattle.std.specs.Prelude.{Result, Ok}
use Rattle.frames.specs.declared.numbers.PlaceNo.{PlaceNo}
use Rattle.frames.specs.declared.numbers.StatementNo.{StatementNo}
use Rattle.machine.specs.declared.Refusal.{Refusal}
use Rattle.resolve.specs.declared.PreparedStep.{PreparedStep}
use Rattle.resolve.specs.declared.PreparedStep.TheVariants as step

-- what the step is, or why it is refused
abbrev pub Readied : Type 0
Readied = Result PreparedStep Refusal

pattern abbrev pub Place : PlaceNo → Readied
Place k = Ok (step.Place k)

pattern abbrev pub Hypothesis : StatementNo → Readied
Hypothesis h = Ok (step.Hypothesis h)

pattern abbrev pub Frame : StatementNo → Readied
Frame a = Ok (step.Frame a)
