-- The line that tells a verdict, as a list of bytes, and what it is to put a text into a buffer.
use Rattle.std.specs.Prelude.{ℕ, zero, suc, ◌+◌, ◌/◌, ◌%◌, ◌≡◌, List, [], ◌∷◌, ◌++◌, cond, ltb, length, take, Ok, Err}
use Rattle.frames.specs.Verdict.{Verdict, number_of}

-- the decimal digits of a number below 10 ^ fuel, with no zeros in front
unfoldable pub digits_of : ℕ → ℕ → List ℕ
digits_of zero n = []
digits_of (suc fuel) n = cond (ltb n 10) ((48 + n) ∷ []) (digits_of fuel (n / 10) ++ ((48 + n % 10) ∷ []))

-- a number of the machine as decimal text: 20 digits hold it
abbrev pub decimal : ℕ → List ℕ
decimal n = digits_of 20 n

-- a word and two numbers, divided by single spaces, and LF
abbrev pub line : List ℕ → ℕ → ℕ → List ℕ
line word a b = ((((word ++ decimal a) ++ (32 ∷ [])) ++ decimal b) ++ (10 ∷ []))

-- `good SYMBOLS STATEMENTS`
abbrev pub good_line : ℕ → ℕ → List ℕ
good_line symbols statements = line (103 ∷ 111 ∷ 111 ∷ 100 ∷ 32 ∷ []) symbols statements

-- `refused NUMBER PLACE`
abbrev pub refused_line : ℕ → ℕ → List ℕ
refused_line number place = line (114 ∷ 101 ∷ 102 ∷ 117 ∷ 115 ∷ 101 ∷ 100 ∷ 32 ∷ []) number place

-- the line that tells a verdict
abbrev pub line_of : Verdict → List ℕ
line_of (Ok sizes) = good_line sizes.symbols sizes.statements
line_of (Err away) = refused_line (number_of away.why) away.place

-- part stands in the buffer right after what stood before the place at, which it keeps; next is the place after it
pub record Appended (before : List ℕ) (at : ℕ) (part after : List ℕ) (next : ℕ) : Type 0 where
  pub same : length after ≡ length before
  pub next_is : next ≡ at + length part
  pub text : take next after ≡ take at before ++ part
