-- What the program writes, for any bytes on standard input: the lines as a function of the verdict, of the labels and of the bench's answers.
use Rattle.std.specs.Prelude.{ℕ, List, ◌++◌, length, Ok, Err}
use Rattle.frames.specs.Logic.{below, pick}
use Rattle.frames.specs.Verdict.{verdict, number_of, Verdict}
use Rattle.frames.specs.Database.{database}
use Rattle.frames.specs.Facts.{statement_of}
use Rattle.machine.specs.Answer.{Answer, number, place, steps}
use Rattle.machine.specs.Bench.{answer}
use Rattle.machine.specs.Memory.{Room}
use Rattle.packed.specs.Pool.{joined}
use Rattle.verdict_text.specs.Text.{refused_line}
use Rattle.lines.specs.Lines.{checked_line, answer_line}
use Rattle.walk.specs.Walk.{provable}

-- the greatest sizes
unfoldable pub greatest : Room
greatest = record { pool = 65536; stack = 1024; places = 4096 }

-- a label and an answer as a line
unfoldable pub line_for : List ℕ → Answer → List ℕ
line_for label a = answer_line label (number a) (place a) (steps a)

-- the line of statement p, a $p
unfoldable pub proof_line : List ℕ → ℕ → List ℕ
proof_line f p = line_for (statement_of (database f) p).label (answer f p greatest)

-- a line for each $p, in file order
unfoldable pub proof_lines : List ℕ → List ℕ
proof_lines f = joined (proof_line f) (provable (database f))

-- a good file: `checked N`, and the lines of its $p
unfoldable pub checked_text : List ℕ → List ℕ
checked_text f = checked_line (length (provable (database f))) ++ proof_lines f

-- by the verdict on the file
unfoldable pub text_of : Verdict → List ℕ → List ℕ
text_of (Ok sizes) f = checked_text f
text_of (Err away) f = refused_line (number_of away.why) away.place

-- more than 65,536 bytes are `refused 2 0`
unfoldable pub output_of : List ℕ → List ℕ
output_of input = pick (below 65536 (length input)) (refused_line 2 0) (text_of (verdict input) input)
