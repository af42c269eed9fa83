-- Reading the bytes of a proof's text one after another.
use Rattle.std.specs.Prelude.{ℕ, ◌+◌, ◌≤◌, ◌≡◌, length, Ok, Err}
use Rattle.frames.specs.Database.{database}
use Rattle.machine.specs.Answer.{refused}
use Rattle.machine.specs.Run as machine
use Rattle.packed.specs.Pool.{range}
use Rattle.memory.specs.Shown.{room_of, Shown}
use Rattle.run.specs.declared.Mode.{Mode}
use Rattle.run.specs.declared.Mode.TheVariants.{Beginning, Normal, Roster}
use Rattle.run.specs.Read.{Read}
use Rattle.run_bytes.specs.declared.State.{State}
use Rattle.run_bytes.specs.declared.Stopped.{Stopped}
use Rattle.run_bytes.specs.Next.{Next}
use Rattle.run.specs.Running.{Env, Tables, Sized, Running, bench_of, lent_of, width_of}
use Rattle.run.specs.Reads.{mode_of, Low, Reads, Keeps}

-- before the byte at `at`, the code stands where the definition stands
pub record Stands (e : Env) (t : Tables) (s : State) (at : ℕ) (d : machine.Standing) : Type 0 where
  pub shown : Shown (bench_of e) (lent_of t) s.counts d.memory
  pub steps : d.memory.steps ≡ s.steps
  pub mode : d.mode ≡ mode_of s.mode
  pub token : d.token ≡ range s.token at e.text
  pub place : d.at ≡ at

-- the run goes on alike, or it is over alike
pub data Alike (e : Env) (t : Tables) (at : ℕ) : machine.State → Next → Type 0 where
  going : {d : machine.Standing} {s : State} → Stands e t s at d → Alike e t at (machine.going d) (Ok s)
  over : {x : Stopped} → Alike e t at (machine.over (refused x.why x.place x.steps)) (Err x)

-- what a state that goes on keeps, where the file has n symbols
pub record KeepsState (n : ℕ) (t : Tables) (steps at : ℕ) (answer : Next) : Type 0 where
  pub sized : (s : State) → answer ≡ Ok s → Sized n t s.counts.used
  pub low : (s : State) → answer ≡ Ok s → Low s.mode
  pub few : (s : State) → answer ≡ Ok s → s.steps ≤ steps + 1
  pub begun : (s : State) → answer ≡ Ok s → s.token ≤ at

-- what is read goes on after the byte at `at`, with no token begun; a refusal has its place
pub record After (read : Read) (at place : ℕ) (answer : Next) : Type 0 where
  pub keeps : (n : ℕ) (t : Tables) (steps : ℕ) → Keeps n t steps read → KeepsState n t steps (at + 1) answer
  pub alike : (e : Env) (t : Tables) (state : machine.State) → Reads e t place (machine.go_on at) state read → Alike e t (at + 1) state answer

-- a byte is read as the definition reads it
pub record ReadsByte (e : Env) (t t' : Tables) (s : State) (at b : ℕ) (answer : Next) : Type 0 where
  pub keeps : KeepsState (width_of e) t' s.steps (at + 1) answer
  pub follows : (d : machine.Standing) → Stands e t s at d
      → Alike e t' (at + 1) (machine.on_byte (database e.file) e.asked (room_of e.limits) (machine.going d) b) answer

-- not yet in the letters
pub data Plain : Mode → Type 0 where
  beginning : Plain Beginning
  normal : Plain Normal
  roster : Plain Roster

-- the whole text is read as the definition reads it
pub record ReadsText (e : Env) (t t' : Tables) (s : State) (answer : Next) : Type 0 where
  pub running : (s' : State) → answer ≡ Ok s' → Running e t' s'.counts
  pub low : (s' : State) → answer ≡ Ok s' → Low s'.mode
  pub few : (s' : State) → answer ≡ Ok s' → s'.steps ≤ length e.text
  pub begun : (s' : State) → answer ≡ Ok s' → s'.token ≤ length e.text
  pub follows : (d : machine.Standing) → Stands e t s 0 d
      → Alike e t' (length e.text) (machine.on_bytes (database e.file) e.asked (room_of e.limits) (machine.going d) e.text) answer
