-- What reading on does: the state of the definition after a letter or a token is the one that the answer tells.
use Rattle.std.specs.Prelude.{ℕ, ◌+◌, ◌≤◌, ◌<◌, ◌≡◌, Bool}
use Rattle.machine.specs.declared.Refusal.{Refusal}
use Rattle.machine.specs.Answer.{refused}
use Rattle.machine.specs.Memory.{Memory}
use Rattle.machine.specs.Run as machine
use Rattle.memory.specs.declared.Counts.{Counts}
use Rattle.memory.specs.Shown.{Shown}
use Rattle.run.specs.declared.Mode.{Mode}
use Rattle.run.specs.declared.Mode.TheVariants.{Beginning, Normal, Roster, Letters}
use Rattle.run.specs.Read.{Read, Go, Stop}
use Rattle.run.specs.Running.{Env, Tables, Sized, bench_of, lent_of}

-- the definition's mode
unfoldable pub mode_of : Mode → machine.Mode
mode_of Beginning = machine.beginning
mode_of Normal = machine.normal
mode_of Roster = machine.in_roster
mode_of (Letters k can_save) = machine.in_letters k can_save

-- k stays below its limit
pub data Low : Mode → Type 0 where
  beginning : Low Beginning
  normal : Low Normal
  roster : Low Roster
  letters : {k : ℕ} {can_save : Bool} → k < machine.k_limit → Low (Letters k can_save)

-- the run goes on as `next` says, from a mode and a memory that the tables show; or it is refused at its place
pub data Reads (e : Env) (t : Tables) (place : ℕ) (next : machine.Mode → Memory → machine.State) : machine.State → Read → Type 0 where
  goes : {m : Memory} {mode : Mode} {c : Counts} {steps : ℕ} → Shown (bench_of e) (lent_of t) c m → m.steps ≡ steps
      → Reads e t place next (next (mode_of mode) m) (Go mode c steps)
  stops : {why : Refusal} {steps : ℕ} → Reads e t place next (machine.over (refused why place steps)) (Stop why steps)

-- what an answer keeps, where the file has n symbols
pub record Keeps (n : ℕ) (t : Tables) (steps : ℕ) (answer : Read) : Type 0 where
  pub sized : (mode : Mode) (c : Counts) (steps' : ℕ) → answer ≡ Go mode c steps' → Sized n t c.used
  pub low : (mode : Mode) (c : Counts) (steps' : ℕ) → answer ≡ Go mode c steps' → Low mode
  pub few : (mode : Mode) (c : Counts) (steps' : ℕ) → answer ≡ Go mode c steps' → steps' ≤ steps + 1
