-- The set of the numbers of the variables in a statement, as it is gathered from the table of numbers.
use Rattle.std.specs.Prelude.{ℕ, ◌+◌, ◌<◌, ◌≡◌, Bool, List, get_or}
use Rattle.frames.specs.Logic.{equal, either, both, any}
use Rattle.bitset.specs.Sets.{member, size}
use Rattle.packed.specs.Pool.{is_var}

-- symbol s is a variable with the number n
unfoldable pub numbers_as : List ℕ → List ℕ → List ℕ → ℕ → ℕ → Bool
numbers_as f syms table n s = both (is_var f syms s) (equal (get_or table s 0) (n + 1))

-- the number of symbol s is added, if it is a variable that has one
pub record Marks (f syms table : List ℕ) (s : ℕ) (words words' : List ℕ) : Type 0 where
  pub sized : size words' ≡ size words
  pub exactly : (n : ℕ) → n < size words → member words' n ≡ either (numbers_as f syms table n s) (member words n)

-- the set of these symbols, among the numbers that a set can hold
pub record RawGathered (f syms table xs words : List ℕ) : Type 0 where
  pub exactly : (n : ℕ) → n < 256 → member words n ≡ any (numbers_as f syms table n) xs
