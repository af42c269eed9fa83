-- What a proof is answered.
use Rattle.std.specs.Prelude.{ℕ, Result, Ok}
use Rattle.run_bytes.specs.declared.Stopped.{Stopped}
use Rattle.findings.specs.declared.Acceptance.{Acceptance}

-- the proof is accepted, or it is refused
abbrev pub Answer : Type 0
Answer = Result Acceptance Stopped

-- accepted at this place and after so many steps, with the word of its derivation and the tree entries that hold it
abbrev pub Accepted : ℕ → ℕ → ℕ → ℕ → Answer
Accepted place steps word nodes = Ok (record { place = place; steps = steps; word = word; nodes = nodes })
