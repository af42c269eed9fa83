-- What the functions of the program hand to each other.
use Rattle.std.specs.Prelude.{ℕ, ◌≤◌, ◌<◌, ◌≡◌, List, length, get_or, Ok}
use Rattle.frames.specs.Verdict.{index}
use Rattle.frames.specs.Database.{database}
use Rattle.resolve.specs.Filed.{Filed}
use Rattle.walk.specs.Walk.{provable, answer_word, Walked}
use Rattle.reply.specs.Output.{greatest}

-- a good file with the offsets of its statements
abbrev pub Listed : (f stmts : List ℕ) → Type 0
Listed f stmts = Filed f (index f).symbols stmts

-- the answers to all $p, in file order, in room of the greatest sizes
pub record Held (f words : List ℕ) : Type 0 where
  pub many : length (provable (database f)) ≤ length words
  pub each : (i : ℕ) → i < length (provable (database f)) → get_or words i 0 ≡ answer_word f greatest (get_or (provable (database f)) i 0)

-- so many $p were answered
pub record Counted (walked : Walked) (r : ℕ) : Type 0 where
  pub is : (n : ℕ) → walked ≡ Ok n → r ≡ n
