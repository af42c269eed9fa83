-- `packed_calls::number` meets its contract: in each case the number is the definition's.
use Rattle.std.proofs.Common.{◌≡◌, refl, ◌∙◌, Some, None}
use Rattle.std.specs.Option.{unwrap_or}
use Rattle.packed.specs.Pool.{Grown}
use Rattle.packed_calls.specs.Answers.{number_of}
use Rattle.packed_calls.proofs.number.Goals as goal

number-or : (grown : Grown) → unwrap_or grown 18446744073709551615 ≡ number_of grown
unfolding number_of
number-or (Some end) = refl
number-or None = refl

pub returns : goal.returns
returns c = c.unwrap_or.ensures ∙ number-or _
