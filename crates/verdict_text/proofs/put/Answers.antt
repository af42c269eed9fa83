-- `verdict_text::put` meets its contract: in each case of the verdict the line is the one that the case's function puts.
use Prim.Native.Nat.{ℕ}
use mathlib.Core.Path.{◌≡◌, ap, sym, ◌∙◌}
use mathlib.Core.List.{List}
use Rattle.frames.specs.declared.Refusal.{Refusal}
use Rattle.frames.specs.Verdict.{Verdict, Refused, number_of}
use Rattle.verdict_text.specs.Text.{refused_line, line_of}
use Rattle.verdict_text.proofs.put.Goals as goal

-- the line with the refusal's number is the line of the refusal
told : (v : Verdict) (why : Refusal) (place n : ℕ) (text : List ℕ) → v ≡ Refused why place → n ≡ number_of why → text ≡ refused_line n place → text ≡ line_of v
told v why place n text e m t = t ∙ ap (λ (k : ℕ). refused_line k place) m ∙ ap line_of (sym e)

pub returns-in-Ok : goal.returns-in-Ok
returns-in-Ok c = record { prefix_len = c.good.ensures.prefix_len; out_after = cc }

pub returns-in-Err : goal.returns-in-Err
returns-in-Err c =
    record { prefix_len = c.refused.ensures.prefix_len; out_after = told _ _ _ _ _ c.in-Err.is c.number.ensures c.refused.ensures.out_after }
