-- Texts put into a buffer one after another, where there may be no room for one of them.
use Rattle.std.specs.Prelude.{ℕ, ◌≡◌, List, ◌++◌, length}
use Rattle.packed.specs.Pool.{Adds, Grown}
use Rattle.verdict_text.specs.Text.{line}

-- these bytes, and then the text; these bytes as the beginning of a line that ends with two numbers
abbrev pub and_then : List ℕ → List ℕ → List ℕ
and_then text bytes = bytes ++ text

abbrev pub and_two : ℕ → ℕ → List ℕ → List ℕ
and_two a b bytes = line bytes a b

-- where bytes were added with the answer so far, the longer text is added with this answer: nothing more once the buffer is full
pub record Extends (longer : List ℕ → List ℕ) (out : List ℕ) (done : Grown) (out' : List ℕ) (answer : Grown) : Type 0 where
  pub sized : length out' ≡ length out
  pub adds : (bytes : List ℕ) (at : ℕ) (before : List ℕ) → Adds bytes at (length before) before out done
      → Adds (longer bytes) at (length before) before out' answer
