-- What a proof comes to: the answer tells what the definition's run ends with.
use Rattle.std.specs.Prelude.{ℕ, ◌+◌, ◌≤◌, ◌≡◌, List, length, Ok, Err}
use Rattle.book.specs.Book.{Tree}
use Rattle.frames.specs.Database.{database}
use Rattle.machine.specs.Answer.{accepted, refused}
use Rattle.machine.specs.declared.Refusal.{Refusal}
use Rattle.machine.specs.Chain.{Result, stop}
use Rattle.machine.specs.Memory.{Proved, Memory}
use Rattle.machine.specs.Run as machine
use Rattle.packed.specs.Lists.{Located}
use Rattle.tree.specs.Recorded.{Held}
use Rattle.resolve.specs.Filed.{Filed}
use Rattle.memory.specs.declared.Counts.{Counts}
use Rattle.memory.specs.Shown.{Shown}
use Rattle.machine.specs.Passed.{Passed}
use Rattle.run.specs.declared.Mode.{Mode}
use Rattle.run_bytes.specs.declared.Stopped.{Stopped}
use Rattle.run.specs.Running.{Env, Tables, bench_of, lent_of}
use Rattle.run.specs.Reads.{mode_of}
use Rattle.findings.specs.Answers.{Answer, Accepted}

-- accepted alike, and then the tree entries hold the derivation, where they suffice; or refused alike
pub data Tells (f entries : List ℕ) : machine.State → Answer → Type 0 where
  accepts : {place steps consumed word nodes : ℕ} {tree : Tree} → nodes ≤ steps + consumed → (nodes ≤ length entries → Held f entries nodes word tree)
      → Tells f entries (machine.over (accepted place steps consumed tree)) (Accepted place steps word nodes)
  refuses : {x : Stopped} → Tells f entries (machine.over (refused x.why x.place x.steps)) (Err x)

-- the mode at the end: 21, 22, else what follows
pub record ChecksMode (mode : Mode) (answer : Passed) : Type 0 where
  pub refuses : (why : Refusal) → answer ≡ Err why → (rest : Result Proved) → machine.unfinished (mode_of mode) rest ≡ stop why
  pub passes : answer ≡ Ok tt → (rest : Result Proved) → machine.unfinished (mode_of mode) rest ≡ rest

-- the answer of an end
unfoldable pub answer_of : Passed → ℕ → ℕ → ℕ → ℕ → Answer
answer_of (Ok passed) place steps word nodes = Accepted place steps word nodes
answer_of (Err why) place steps word nodes = Err (record { why = why; place = place; steps = steps })

-- the findings at the end of the text, in this mode
pub record Closes (f syms : List ℕ) (at : ℕ) (stack pool : List ℕ) (c : Counts) (mode : Mode) (place steps : ℕ) (answer : Answer) : Type 0 where
  pub tells : (e : Env) (t : Tables) (m : Memory) → e.file ≡ f → t.stack ≡ stack → t.pool ≡ pool → Filed f syms e.statements → Located f e.asked at
      → m.steps ≡ steps → Shown (bench_of e) (lent_of t) c m
      → Tells f t.tree (machine.finish (database f) e.asked place (mode_of mode) m) answer
