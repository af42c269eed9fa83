-- What a test of the code comes to.
use Rattle.std.specs.Prelude.{Result}
use Rattle.machine.specs.declared.Refusal.{Refusal}

-- it is passed, or the proof is refused
abbrev pub Passed : Type 0
Passed = Result (Unit {0}) Refusal
