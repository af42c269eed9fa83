-- What making a hypothesis ready and putting it to use does, said of the definition of a run, for every memory that the tables show.
use Rattle.std.specs.Prelude.{ℕ, ◌+◌, ◌*◌, ◌≤◌, ◌<◌, ◌≡◌, List, length, drop, Ok}
use Rattle.frames.specs.Layout.{symbols_at}
use Rattle.frames.specs.Database.{database, statement_at}
use Rattle.frames.specs.Facts.{typecode}
use Rattle.machine.specs.Chain.{bind}
use Rattle.machine.specs.Memory.{Memory}
use Rattle.machine.specs.Prepare.{prepare_hypothesis, add_ready}
use Rattle.machine.specs.Apply.{run_ready}
use Rattle.packed.specs.Lists.{Indexed, Located}
use Rattle.resolve.specs.Resolve.{Supposable}
use Rattle.memory.specs.declared.table.Row.{Row}
use Rattle.memory.specs.declared.Counts.{Counts}
use Rattle.memory.specs.declared.Limits.{Limits}
use Rattle.memory.specs.Outcome.{Outcome}
use Rattle.memory.specs.Shown.{room_of, bench, lent, mark_of, Shown, Ends}
use Rattle.engine.specs.RawSet.{RawGathered}

-- the row of a hypothesis: its typecode, the range that its symbols take, the word of its derivation, and the set of its variables
pub record LeafRow (f syms table : List ℕ) (at from to tag end : ℕ) (row : Row) : Type 0 where
  pub head : row.head ≡ typecode (statement_at f at)
  pub from_is : row.from ≡ from
  pub to_is : row.to ≡ to
  pub tag_is : row.tag ≡ tag
  pub end_is : row.end ≡ end
  pub word_is : row.node ≡ 2 * at
  pub vars : RawGathered f syms table (drop 1 (symbols_at f at)) row.vars.words
  pub sized : length row.vars.words ≡ 4

-- variables, pool bytes and places are within their bounds
pub record Bounded (limits : Limits) (c : Counts) : Type 0 where
  pub variables : c.count ≤ 256
  pub pool : c.used ≤ limits.pool
  pub places : c.places ≤ limits.places

-- n places more are taken, within the bounds; local labels and stack are as before, and no less of the pool is used
pub record Taken (limits : Limits) (c : Counts) (n : ℕ) (c' : Counts) : Type 0 where
  pub bounded : Bounded limits c'
  pub places : c'.places ≡ c.places + n
  pub locals : c'.locals ≡ c.locals
  pub depth : c'.depth ≡ c.depth
  pub used : c.used ≤ c'.used

-- it takes the next place as the definition says
pub record PlacesHypothesis (f syms : List ℕ) (at : ℕ) (numbers pool places : List ℕ) (c : Counts) (limits : Limits)
    (numbers' pool' places' : List ℕ) (answer : Outcome) : Type 0 where
  pub taken : (c' : Counts) → answer ≡ Ok c' → Taken limits c 1 c'
  pub follows : (stmts : List ℕ) (p : ℕ) (text stack locals tree : List ℕ) (h : ℕ) (m : Memory) → Indexed f syms → p < length (database f).statements → Located f h at
      → Supposable (database f) p h
      → Shown (bench f syms stmts p limits text) (lent numbers pool stack places locals tree) c m
      → Ends (Shown (bench f syms stmts p limits text) (lent numbers' pool' stack places' locals tree))
      (bind (prepare_hypothesis (database f) (room_of limits) m h) (add_ready (room_of limits))) answer

-- it is pushed as the definition says
pub record PushesHypothesis (f syms : List ℕ) (at : ℕ) (numbers pool stack : List ℕ) (c : Counts) (limits : Limits) (tag end : ℕ)
    (numbers' pool' stack' : List ℕ) (answer : Outcome) : Type 0 where
  pub grows : (c' : Counts) → answer ≡ Ok c' → c.used ≤ c'.used
  pub follows : (stmts : List ℕ) (p : ℕ) (text places locals tree : List ℕ) (h : ℕ) (m : Memory) → Indexed f syms → p < length (database f).statements → Located f h at
      → Supposable (database f) p h
      → Shown (bench f syms stmts p limits text) (lent numbers pool stack places locals tree) c m
      → Ends (Shown (bench f syms stmts p limits text) (lent numbers' pool' stack' places locals tree))
      (bind (prepare_hypothesis (database f) (room_of limits) m h) (run_ready (database f) p (room_of limits) (mark_of text tag end))) answer
