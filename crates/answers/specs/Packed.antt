-- Number, place and steps of an answer as one number, and how they are read back.
use Rattle.std.specs.Prelude.{ℕ, ◌+◌, ◌*◌, ◌/◌, ◌%◌}

-- 8 bits of number, 24 bits of place, 32 bits of steps, from the lowest up
unfoldable pub packed_answer : (number place steps : ℕ) → ℕ
packed_answer number place steps = number + 256 * place + 4294967296 * steps

-- what a caller reads back
unfoldable pub number_in : ℕ → ℕ
number_in word = word % 256

unfoldable pub place_in : ℕ → ℕ
place_in word = word / 256 % 16777216

unfoldable pub steps_in : ℕ → ℕ
steps_in word = word / 4294967296
