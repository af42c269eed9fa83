-- What preparing a hypothesis comes to.
use Rattle.std.specs.Prelude.{ℕ, Result, Ok}
use Rattle.machine.specs.declared.Refusal.{Refusal}
use Rattle.engine.specs.declared.hypothesis.Ready as declared

-- how far the pool is used and how many variables have a number, or why the hypothesis is refused
abbrev pub Prepared : Type 0
Prepared = Result declared.Ready Refusal

abbrev pub Made : ℕ → ℕ → Prepared
Made used count = Ok (record { used = used; count = count })
