-- The end of a proof: which result of the definition the answer is.
use Rattle.std.specs.Prelude.{ℕ, ◌≤◌, ◌≡◌, Bool, true, false, List, length, Ok, Err}
use Rattle.frames.specs.Logic.{equal, pick}
use Rattle.frames.specs.Database.{database, statement_at}
use Rattle.frames.specs.Facts.{typecode}
use Rattle.machine.specs.declared.Refusal.{Refusal}
use Rattle.machine.specs.declared.Refusal.TheVariants.{ProofWrongTypeEnd, ProofWrongExprEnd}
use Rattle.machine.specs.Chain.{Result, fine, stop}
use Rattle.machine.specs.Ground.{expression_of}
use Rattle.machine.specs.Memory.{Proved, Memory}
use Rattle.machine.specs.Run.{only_entry}
use Rattle.packed.specs.Lists.{Located, ComparesRaw}
use Rattle.resolve.specs.Filed.{Filed}
use Rattle.memory.specs.declared.table.Row.{Row}
use Rattle.memory.specs.declared.Counts.{Counts}
use Rattle.memory.specs.Shown.{Bench, Lent, Shown}
use Rattle.machine.specs.Passed.{Passed}

-- the answer tells whether the symbols of a row within the pool are the statement's
pub record HoldsClaim (f syms : List ℕ) (at : ℕ) (row : Row) (pool : List ℕ) (answer : Bool) : Type 0 where
  pub compares : row.from ≤ row.to → row.to ≤ length pool → ComparesRaw f syms at pool row.from row.to answer

-- a row against the claim: 41, then 42 where its symbols are not the claim's
pub record IsClaim (f syms : List ℕ) (at : ℕ) (row : Row) (pool : List ℕ) (answer : Passed) : Type 0 where
  pub other : equal row.head (typecode (statement_at f at)) ≡ false → answer ≡ Err ProofWrongTypeEnd
  pub alike : equal row.head (typecode (statement_at f at)) ≡ true
      → (holds : Bool) × HoldsClaim f syms at row pool holds × (answer ≡ pick holds (Ok tt) (Err ProofWrongExprEnd))

-- the answer is the definition's: something is proved, or the refusal is the same
pub data EndsAs : Result Proved → Passed → Type 0 where
  accepts : {x : Proved} → EndsAs (fine x) (Ok tt)
  refuses : {why : Refusal} → EndsAs (stop why) (Err why)

-- what is left on the stack is judged as the definition judges it
pub record ChecksEnd (f syms : List ℕ) (at : ℕ) (stack pool : List ℕ) (c : Counts) (answer : Passed) : Type 0 where
  pub follows : (stmts : List ℕ) (b : Bench) (l : Lent) (m : Memory) → b.file ≡ f → l.stack ≡ stack → l.pool ≡ pool → Filed f syms stmts
      → Located f b.asked at → Shown b l c m → EndsAs (only_entry (expression_of (database f) b.asked) m.stack) answer
