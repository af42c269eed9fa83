-- What the program `longform` writes, for any bytes on standard input: for each $p one line with its label and its long form, or with its refusal.
use Rattle.std.specs.Prelude.{ℕ, List, [], ◌∷◌, ◌++◌, length, Ok, Err}
use Rattle.frames.specs.Logic.{below, equal, pick}
use Rattle.frames.specs.Verdict.{verdict, number_of, Verdict}
use Rattle.frames.specs.Database.{database}
use Rattle.frames.specs.Facts.{statement_of}
use Rattle.packed.specs.Pool.{joined}
use Rattle.postorder.specs.LongForm.{LongAnswer, long_answer}
use Rattle.verdict_text.specs.Text.{decimal, line, refused_line}
use Rattle.walk.specs.Walk.{provable}
use Rattle.reply.specs.Output.{greatest}

-- `LABEL: TEXT`
abbrev pub text_line : (label text : List ℕ) → List ℕ
text_line label text = ((label ++ (58 ∷ 32 ∷ [])) ++ text) ++ (10 ∷ [])

-- `LABEL refused NUMBER `, with the space after it
abbrev pub refused_label : List ℕ → ℕ → List ℕ
refused_label label number = ((label ++ (32 ∷ 114 ∷ 101 ∷ 102 ∷ 117 ∷ 115 ∷ 101 ∷ 100 ∷ 32 ∷ [])) ++ decimal number) ++ (32 ∷ [])

-- `LABEL refused NUMBER PLACE STEPS`
abbrev pub refusal_line : List ℕ → (number place steps : ℕ) → List ℕ
refusal_line label number place steps = line (refused_label label number) place steps

-- a label and an answer in its parts as a line: the text where the number is 0, else the refusal
unfoldable pub line_for : List ℕ → (number place steps : ℕ) → List ℕ → List ℕ
line_for label number place steps text = pick (equal number 0) (text_line label text) (refusal_line label number place steps)

-- a label and an answer of the long-form call as a line
unfoldable pub long_line : List ℕ → LongAnswer → List ℕ
long_line label a = line_for label a.number a.place a.steps a.text

-- the line of statement p, a $p: what the call answers where the greatest sizes, 131,072 tree entries and 65,536 bytes of output are lent
unfoldable pub long_line_of : List ℕ → ℕ → List ℕ
long_line_of f p = long_line (statement_of (database f) p).label (long_answer f p greatest 131072 65536)

-- a line for each $p, in file order
unfoldable pub long_lines : List ℕ → List ℕ
long_lines f = joined (long_line_of f) (provable (database f))

-- by the verdict on the file
unfoldable pub long_text_of : Verdict → List ℕ → List ℕ
long_text_of (Ok sizes) f = long_lines f
long_text_of (Err away) f = refused_line (number_of away.why) away.place

-- more than 65,536 bytes are `refused 2 0`
unfoldable pub long_output_of : List ℕ → List ℕ
long_output_of input = pick (below 65536 (length input)) (refused_line 2 0) (long_text_of (verdict input) input)
