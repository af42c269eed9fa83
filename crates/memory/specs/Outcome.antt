-- What a step comes to.
use Rattle.std.specs.Prelude.{Result}
use Rattle.machine.specs.declared.Refusal.{Refusal}
use Rattle.memory.specs.declared.Counts.{Counts}

-- the run goes on with these counts, or the proof is refused
abbrev pub Outcome : Type 0
Outcome = Result Counts Refusal
