-- The input is taken: one that is good was short enough, so that it was checked.
use Prim.Native.Nat.{ℕ, ◌≤◌, ◌<◌}
use mathlib.Core.Path.{◌≡◌, refl, sym, ◌∙◌}
use mathlib.Core.Bool.{Bool, true, false}
use mathlib.Core.List.{List}
use native.Mathlib.Omega.{arith}
use lib.ListN.{length}
use Rattle.frames.specs.Logic.{below}
use Rattle.frames.specs.Verdict.{Checked, Verdict, Good, Refused}
use Rattle.frames.specs.declared.Refusal.TheVariants.{TooMany}
use Rattle.frames.proofs.Chains.{below_true, below_false}
use Rattle.long_lines.specs.Writing.{Taken}

module _ {input syms stmts syms' stmts' : List ℕ} {v : Verdict} where
  -- a longer input, and any other
  pub taken-long : 65536 < length input → v ≡ Refused TooMany 0 → Taken input syms stmts syms' stmts' v
  taken-long l is = record { long = λ m. is; short = λ s. absurd (omega arith) }

  pub taken-short : length input ≤ 65536 → Checked input syms stmts syms' stmts' v → Taken input syms stmts syms' stmts' v
  taken-short s ch = record { long = λ l. absurd (omega arith); short = λ m. ch }

  pub taken-good : {n k : ℕ} → Taken input syms stmts syms' stmts' v → v ≡ Good n k → Checked input syms stmts syms' stmts' v
  taken-good {n} {k} t is = by (below 65536 (length input)) refl
    where
      by : (b : Bool) → below 65536 (length input) ≡ b → Checked input syms stmts syms' stmts' v
      by true e =
          let r = t.long (below_true _ _ e) in
          let both : Good n k ≡ Refused TooMany 0 = sym is ∙ r in
          let z : ◌≡◌ {A = ℕ} 0 1 = cc in
          absurd (omega arith)
      by false e = t.short (below_false _ _ e)
