-- Reading a token.
use Rattle.std.specs.Prelude.{ℕ, ◌+◌, ◌≤◌, ◌≡◌, List, Ok, Err}
use Rattle.frames.specs.Database.{Database, database}
use Rattle.machine.specs.Chain.{Result, bind}
use Rattle.machine.specs.Reading.{Parts, split}
use Rattle.machine.specs.Memory.{Room, Memory}
use Rattle.machine.specs.Prepare.{prepare_normal}
use Rattle.machine.specs.Apply.{run_ready}
use Rattle.machine.specs.Run as machine
use Rattle.packed.specs.Pool.{range}
use Rattle.memory.specs.declared.Counts.{Counts}
use Rattle.memory.specs.Shown.{room_of, Shown}
use Rattle.memory.specs.Outcome.{Outcome}
use Rattle.run.specs.declared.Mode.{Mode}
use Rattle.run.specs.declared.Mode.TheVariants.{Roster}
use Rattle.run.specs.Read.{Read, Go, Stop}
use Rattle.run.specs.Running.{Env, Tables, tables, Sized, width_of, bench_of, lent_of}
use Rattle.run.specs.Reads.{mode_of, Reads, Keeps}

-- one normal step, without its local label
unfoldable pub normal_step : Database → ℕ → Room → Parts → Memory → Result Memory
normal_step db p room token m = bind (prepare_normal db p room m token) (run_ready db p room token.mark)

-- the text, the limit of places and the tables that a local label needs are those of the run
pub record Lends (e : Env) (t : Tables) (text stack places locals : List ℕ) (limit : ℕ) : Type 0 where
  pub text_is : e.text ≡ text
  pub limit_is : e.limits.places ≡ limit
  pub stack_is : t.stack ≡ stack
  pub places_is : t.places ≡ places
  pub locals_is : t.locals ≡ locals

-- the tables with these places and these local labels
abbrev pub with_labels : Tables → List ℕ → List ℕ → Tables
with_labels t places locals = tables t.seats t.froms t.tos t.sets t.numbers t.pool t.stack places locals t.tree

-- after a normal step, its local label is given as the definition gives it; `done` steps are completed
pub record LabelsStep (text stack places locals : List ℕ) (from to : ℕ) (c : Counts) (limit done : ℕ) (places' locals' : List ℕ) (answer : Read) : Type 0 where
  pub keeps : (e : Env) (t : Tables) (m : Memory) (steps : ℕ) → done ≤ steps + 1 → Lends e t text stack places locals limit → Sized (width_of e) t c.used → Shown (bench_of e) (lent_of t) c m
      → Keeps (width_of e) (with_labels t places' locals') steps answer
  pub follows : (e : Env) (t : Tables) (m : Memory) (next : machine.Mode → Memory → machine.State) → Lends e t text stack places locals limit
      → m.steps ≡ done → Shown (bench_of e) (lent_of t) c m
      → Reads e (with_labels t places' locals') from next (machine.after_step (room_of e.limits) (split (range from to text)) from (next machine.normal) m) answer

-- a normal token is read as the definition reads it
pub record ReadsNormal (e : Env) (t t' : Tables) (c : Counts) (from to steps : ℕ) (answer : Read) : Type 0 where
  pub keeps : Keeps (width_of e) t' steps answer
  pub follows : (m : Memory) (next : machine.Mode → Memory → machine.State) → m.steps ≡ steps → Shown (bench_of e) (lent_of t) c m
      → Reads e t' from next
      (machine.on_normal (database e.file) e.asked (room_of e.limits) m from (range from to e.text) (next machine.normal)) answer

-- after what takes places in the roster, which is no step
unfoldable pub roster_read : Outcome → ℕ → Read
roster_read (Ok c) steps = Go Roster c steps
roster_read (Err why) steps = Stop why steps

-- a token is read as the definition reads it in this mode
pub record ReadsToken (e : Env) (t t' : Tables) (c : Counts) (mode : Mode) (from to steps : ℕ) (answer : Read) : Type 0 where
  pub keeps : Keeps (width_of e) t' steps answer
  pub follows : (m : Memory) (next : machine.Mode → Memory → machine.State) → m.steps ≡ steps → Shown (bench_of e) (lent_of t) c m
      → Reads e t' from next
      (machine.on_token (database e.file) e.asked (room_of e.limits) m (mode_of mode) from (range from to e.text) next) answer
