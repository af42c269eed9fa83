-- What the functions of the program hand to each other.
use Rattle.std.specs.Prelude.{ℕ, ◌≤◌, ◌<◌, ◌≡◌, List, length}
use Rattle.frames.specs.Verdict.{Checked, Verdict, Refused}
use Rattle.frames.specs.declared.Refusal.TheVariants.{TooMany}
use Rattle.told.specs.declared.Told.{Told}

-- where 0 is told, the text lies within what was lent for it
pub record Within (t : Told) (text : List ℕ) : Type 0 where
  pub within : t.number ≡ 0 → t.place ≤ length text

-- an input of at most 65,536 bytes is checked, a longer one is `refused 2 0`
pub record Taken (input syms stmts syms' stmts' : List ℕ) (v : Verdict) : Type 0 where
  pub long : 65536 < length input → v ≡ Refused TooMany 0
  pub short : length input ≤ 65536 → Checked input syms stmts syms' stmts' v
