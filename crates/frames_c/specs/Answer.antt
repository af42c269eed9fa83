-- A verdict as three numbers, for a caller in another language.
use Rattle.std.specs.Prelude.{ℕ, ◌≡◌, List, [], ◌∷◌, Ok, Err}
use Rattle.frames.specs.Verdict.{Verdict, number_of, verdict, index, laid}

-- 0 and the counts of a good file; else the refusal's number, the place and 0
unfoldable pub answer_of : Verdict → List ℕ
answer_of (Ok sizes) = 0 ∷ sizes.symbols ∷ sizes.statements ∷ []
answer_of (Err away) = number_of away.why ∷ away.place ∷ 0 ∷ []

-- the three numbers are those of the file's verdict, and the tables are as the file check leaves them
pub record Answered (f syms stmts syms' stmts' answer : List ℕ) : Type 0 where
  pub answers : answer ≡ answer_of (verdict f)
  pub symbols_laid : syms' ≡ laid (index f).symbols syms
  pub statements_laid : stmts' ≡ laid (index f).statements stmts
