-- The lines that the program prints, as lists of bytes: words and numbers divided by single spaces, and LF. `refused NUMBER PLACE` is `refused_line` of the crate
-- verdict_text, where `decimal` and `line` stand too.
use Rattle.std.specs.Prelude.{ℕ, List, [], ◌∷◌, ◌++◌}
use Rattle.verdict_text.specs.Text.{decimal, line}

-- `checked N`
abbrev pub checked_line : ℕ → List ℕ
checked_line n = ((99 ∷ 104 ∷ 101 ∷ 99 ∷ 107 ∷ 101 ∷ 100 ∷ 32 ∷ []) ++ decimal n) ++ (10 ∷ [])

-- a label and a number, each with a space after it
abbrev pub labelled : List ℕ → ℕ → List ℕ
labelled label number = ((label ++ (32 ∷ [])) ++ decimal number) ++ (32 ∷ [])

-- `LABEL NUMBER PLACE STEPS`
abbrev pub answer_line : List ℕ → ℕ → ℕ → ℕ → List ℕ
answer_line label number place steps = line (labelled label number) place steps
