-- `frames_c::answer_of` meets its contract: in each case the three numbers are the definition's.
use Prim.Native.Nat.{ℕ}
use mathlib.Core.Path.{◌≡◌, ap, sym, ◌∙◌}
use mathlib.Core.List.{[], ◌∷◌}
use Rattle.frames.specs.declared.Refusal.{Refusal}
use Rattle.frames.specs.Verdict.{Verdict, Good, Refused, number_of}
use Rattle.frames_c.specs.Answer.{answer_of}
use Rattle.frames_c.proofs.answer_of.Goals as goal

good-answer : (v : Verdict) (s t : ℕ) → v ≡ Good s t → 0 ∷ s ∷ t ∷ [] ≡ answer_of v
unfolding answer_of
good-answer v s t e = ap answer_of (sym e)

refused-answer : (v : Verdict) (why : Refusal) (place n : ℕ) → v ≡ Refused why place → n ≡ number_of why → n ∷ place ∷ 0 ∷ [] ≡ answer_of v
unfolding answer_of
refused-answer v why place n e m = ap (λ (k : ℕ). k ∷ place ∷ 0 ∷ []) m ∙ ap answer_of (sym e)

pub returns-in-Ok : goal.returns-in-Ok
returns-in-Ok c = good-answer _ _ _ c.in-Ok.is

pub returns-in-Err : goal.returns-in-Err
returns-in-Err c = refused-answer _ _ _ _ c.in-Err.is c.number.ensures
