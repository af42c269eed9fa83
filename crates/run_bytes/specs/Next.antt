-- What reading a byte comes to.
use Rattle.std.specs.Prelude.{Result}
use Rattle.run_bytes.specs.declared.State.{State}
use Rattle.run_bytes.specs.declared.Stopped.{Stopped}

-- the run goes on, or it is over
abbrev pub Next : Type 0
Next = Result State Stopped
