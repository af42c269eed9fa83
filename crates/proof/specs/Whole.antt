-- The whole proof: the end of its text, the text, and what is there before it.
use Rattle.std.specs.Prelude.{ℕ, ◌≤◌, ◌<◌, List, ◌≡◌, length}
use Rattle.frames.specs.Database.{database}
use Rattle.machine.specs.Memory.{Memory}
use Rattle.machine.specs.Run as machine
use Rattle.resolve.specs.Filed.{Filed}
use Rattle.memory.specs.declared.Counts.{Counts}
use Rattle.memory.specs.Shown.{room_of, Shown}
use Rattle.begin.specs.Begins.{Unnumbered, Roomy}
use Rattle.disjoint.specs.Disjoint.{Cleared}
use Rattle.run_bytes.specs.declared.State.{State}
use Rattle.run.specs.Running.{Env, Tables, Sized, width_of, bench_of, lent_of}
use Rattle.run_bytes.specs.Bytes.{Stands}
use Rattle.findings.specs.Answers.{Answer}
use Rattle.findings.specs.Tells.{Tells}

-- the end of the text, where the last token may still be open; `tree` are the tree entries after it
pub record EndsText (e : Env) (t : Tables) (tree : List ℕ) (s : State) (answer : Answer) : Type 0 where
  pub tells : (d : machine.Standing) → Stands e t s (length e.text) d
      → Tells e.file tree (machine.on_end (database e.file) e.asked (room_of e.limits) (machine.going d)) answer

-- the whole text, from a memory that the tables show
pub record RunsText (e : Env) (t : Tables) (tree : List ℕ) (c : Counts) (answer : Answer) : Type 0 where
  pub tells : (m : Memory) → m.steps ≡ 0 → Shown (bench_of e) (lent_of t) c m
      → Tells e.file tree (machine.on_end (database e.file) e.asked (room_of e.limits)
      (machine.on_bytes (database e.file) e.asked (room_of e.limits) (machine.begin m) e.text)) answer

-- before a proof: the file is checked, the statement is there, our tables are blank, and what is lent is as large as the limits ask (and the tree entries no
-- more than a proof can use)
pub record Blank (e : Env) (t : Tables) : Type 0 where
  pub filed : Filed e.file e.symbols e.statements
  pub asked : e.asked < length (database e.file).statements
  pub text_few : length e.text ≤ 65536
  pub small : e.limits.pool ≤ 65536
  pub numbers : Unnumbered e.file t.numbers
  pub table : Cleared e.table
  pub roomy : Roomy e.limits t.pool t.stack t.places t.locals t.tree
  pub sized : Sized (width_of e) t 0
