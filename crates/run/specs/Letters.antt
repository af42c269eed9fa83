-- Reading a letter.
use Rattle.std.specs.Prelude.{ℕ, ◌+◌, ◌≡◌, Bool, true, List, Ok, Err}
use Rattle.frames.specs.Database.{database}
use Rattle.machine.specs.declared.Letter.{Letter}
use Rattle.machine.specs.declared.Letter.TheVariants.{Last, Higher, Save, Incomplete, Ignored}
use Rattle.machine.specs.Memory.{Memory}
use Rattle.machine.specs.Run.{go_on, on_letter}
use Rattle.memory.specs.declared.Counts.{Counts}
use Rattle.memory.specs.Outcome.{Outcome}
use Rattle.memory.specs.Shown.{room_of, Shown}
use Rattle.run.specs.declared.Mode.TheVariants.{Letters}
use Rattle.run.specs.Read.{Read, Go, Stop}
use Rattle.run.specs.Running.{Env, Tables, Sized, Running, width_of, bench_of, lent_of, with_places_of}
use Rattle.run.specs.Reads.{Reads, Keeps}

-- a letter is read as the definition reads it
pub record ReadsLetter (e : Env) (t t' : Tables) (c : Counts) (k : ℕ) (can_save : Bool) (steps : ℕ) (letter : Letter) (answer : Read) : Type 0 where
  pub keeps : Keeps (width_of e) t' steps answer
  pub follows : (m : Memory) (at : ℕ) → m.steps ≡ steps → Shown (bench_of e) (lent_of t) c m
      → Reads e t' at (go_on at) (on_letter (database e.file) e.asked (room_of e.limits) m k can_save at letter) answer

-- after the step of a letter: it is completed, and `Z` may come; or it is refused, and not counted
unfoldable pub after_last : Outcome → ℕ → Read
after_last (Ok c) steps = Go (Letters 0 true) c (steps + 1)
after_last (Err why) steps = Stop why steps

-- `A`..`T`
abbrev pub LastLetter : Env → Tables → Tables → Counts → ℕ → ℕ → ℕ → Read → Type 0
LastLetter e t t' c k d steps answer = (can_save : Bool) → ReadsLetter e t t' c k can_save steps (Last d) answer

-- `U`..`Y`
pub record HigherLetter (c : Counts) (k d steps : ℕ) (answer : Read) : Type 0 where
  pub reads : (e : Env) (t : Tables) (can_save : Bool) → Sized (width_of e) t c.used → ReadsLetter e t t c k can_save steps (Higher d) answer

-- `Z`
pub record SaveLetter (stack places places' : List ℕ) (c : Counts) (limit k : ℕ) (can_save : Bool) (steps : ℕ) (answer : Read) : Type 0 where
  pub reads : (e : Env) (t : Tables) → e.limits.places ≡ limit → t.stack ≡ stack → t.places ≡ places → Running e t c
      → ReadsLetter e t (with_places_of t places') c k can_save steps Save answer

-- `?`
pub record IncompleteLetter (k steps : ℕ) (answer : Read) : Type 0 where
  pub reads : (e : Env) (t : Tables) (c : Counts) (can_save : Bool) → ReadsLetter e t t c k can_save steps Incomplete answer

-- any other byte is passed over
pub record IgnoredLetter (c : Counts) (k : ℕ) (can_save : Bool) (steps : ℕ) (answer : Read) : Type 0 where
  pub reads : (e : Env) (t : Tables) → Sized (width_of e) t c.used → ReadsLetter e t t c k can_save steps Ignored answer
