-- What preparing a hypothesis does, said of the definition of a run: which result it has, and what the buffers show then.
use Rattle.std.specs.Prelude.{ℕ, ◌-◌, ◌≤◌, ◌<◌, ◌≡◌, true, List, length, take, drop, Ok, Err}
use Rattle.frames.specs.Database.{Database, database, statement_at}
use Rattle.frames.specs.Facts.{statement_of, floated}
use Rattle.machine.specs.Chain.{Result, fine, stop}
use Rattle.machine.specs.Ground.{is_float, expression_of}
use Rattle.machine.specs.Memory.{Room, Memory, recalls}
use Rattle.machine.specs.Prepare.{numbered_by, Ready, ready, spend, leaf_of, prepare_hypothesis}
use Rattle.packed.specs.Packing.{packed}
use Rattle.packed.specs.Pool.{range}
use Rattle.packed.specs.Lists.{Indexed, Located}
use Rattle.variables.specs.Numbering.{Numbered}
use Rattle.engine.specs.Prepared.{Prepared, Made}

-- the variable of a $f is numbered
pub record MapsFloat (f : List ℕ) (at : ℕ) (table : List ℕ) (count : ℕ) (table' : List ℕ) (count' : ℕ) : Type 0 where
  pub sized : length table' ≡ length table
  pub maps : (vs : List ℕ) → (is_float (statement_at f at) ≡ true → floated (statement_at f at) < length table) → Numbered table count vs
      → Numbered table' count' (numbered_by (statement_at f at) vs)

-- the definition's result for an answer of the code
unfoldable pub result_of : Database → ℕ → Memory → ℕ → Prepared → Result Ready
result_of db h m used (Ok r) =
    fine (ready (spend m (numbered_by (statement_of db h) m.variables) (r.used - used)) (recalls (leaf_of db h)))
result_of db h m used (Err why) = stop why

-- the hypothesis at `at` is prepared as the definition prepares it; where it is ready, the pool has its packed symbols and the table its variable
pub record Prepares (f syms : List ℕ) (at : ℕ) (table : List ℕ) (count : ℕ) (pool : List ℕ) (used limit : ℕ) (table' pool' : List ℕ) (answer : Prepared) : Type 0 where
  pub sized : length table' ≡ length table
  pub pool_sized : length pool' ≡ length pool
  pub bounds : (used' count' : ℕ) → answer ≡ Made used' count' → (count' ≤ 256) × ((used ≤ used') × (used' ≤ limit))
  pub kept : take used pool' ≡ take used pool
  pub past : drop limit pool' ≡ drop limit pool
  pub follows : (h : ℕ) (m : Memory) (room : Room) → Indexed f syms → Located f h at → room.pool ≡ limit → m.pool ≡ used
      → (is_float (statement_of (database f) h) ≡ true → floated (statement_of (database f) h) < length table) → Numbered table count m.variables
      → prepare_hypothesis (database f) room m h ≡ result_of (database f) h m used answer
  pub numbers : (h : ℕ) (vs : List ℕ) (used' count' : ℕ) → Located f h at → answer ≡ Made used' count'
      → (is_float (statement_of (database f) h) ≡ true → floated (statement_of (database f) h) < length table) → Numbered table count vs
      → Numbered table' count' (numbered_by (statement_of (database f) h) vs)
  pub holds : (h used' count' : ℕ) → Indexed f syms → Located f h at → answer ≡ Made used' count'
      → range used used' pool' ≡ packed (database f) (expression_of (database f) h).symbols
