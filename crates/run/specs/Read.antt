-- What reading a letter or a token comes to.
use Rattle.std.specs.Prelude.{ℕ, Result, Ok, Err}
use Rattle.machine.specs.declared.Refusal.{Refusal}
use Rattle.memory.specs.declared.Counts.{Counts}
use Rattle.run.specs.declared.Mode.{Mode}
use Rattle.run.specs.declared.Going.{Going}
use Rattle.run.specs.declared.Halted.{Halted}

-- the run goes on, or it is refused after so many steps
abbrev pub Read : Type 0
Read = Result Going Halted

abbrev pub Go : Mode → Counts → ℕ → Read
Go mode c steps = Ok (record { mode = mode; counts = c; steps = steps })

abbrev pub Stop : Refusal → ℕ → Read
Stop why steps = Err (record { why = why; steps = steps })
