-- What the calls promise: number, place and steps of the answer, and what all that was lent holds then.
use Rattle.std.specs.Prelude.{ℕ, ◌≡◌, List, length}
use Rattle.clearing.specs.Cleared.{cleared}
use Rattle.machine.specs.Bench.{answer}
use Rattle.machine.specs.Memory.{Room}
use Rattle.told.specs.Says.{Says, room_lent}
use Rattle.told.specs.declared.Told.{Told}

-- the room in these lent buffers
abbrev pub room_in : (pool stack places : List ℕ) → Room
room_in pool stack places = room_lent (length pool) (length stack) (length places)

-- all that was lent is zero, in its whole length
pub record Zeroed (pool stack places pool' stack' places' : List ℕ) : Type 0 where
  pub pool_zero : pool' ≡ cleared pool
  pub stack_zero : stack' ≡ cleared stack
  pub places_zero : places' ≡ cleared places

-- one statement: the answer to file, statement number and room, and nothing is left in what was lent
pub record Verified (f : List ℕ) (p : ℕ) (pool stack places pool' stack' places' : List ℕ) (told : Told) : Type 0 where
  pub says : Says (answer f p (room_in pool stack places)) told
  pub zeroed : Zeroed pool stack places pool' stack' places'
