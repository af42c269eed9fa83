-- What takes places before the letters of a compressed proof, said of the definition of a run, for every memory that the tables show: the listed hypotheses and
-- the labels of the roster.
use Rattle.std.specs.Prelude.{ℕ, ◌+◌, ◌<◌, ◌≡◌, List, length, Ok}
use Rattle.frames.specs.Database.{database, statement_at}
use Rattle.frames.specs.Facts.{statement_of}
use Rattle.machine.specs.Memory.{Memory, applies, add_place}
use Rattle.machine.specs.Prepare.{prepare_roster, preload}
use Rattle.packed.specs.Lists.{Located}
use Rattle.resolve.specs.Filed.{Filed}
use Rattle.resolve.specs.Resolve.{Applicable}
use Rattle.memory.specs.declared.Counts.{Counts}
use Rattle.memory.specs.declared.Limits.{Limits}
use Rattle.memory.specs.Outcome.{Outcome}
use Rattle.memory.specs.Shown.{Bench, Lent, room_of, bench, lent, Shown, Ends, with_places_table, with_places}
use Rattle.engine.specs.Ready.{Taken}

-- the assertion a takes the next place as the definition says
pub record PlacesFrame (places : List ℕ) (a : ℕ) (c : Counts) (limit : ℕ) (places' : List ℕ) (answer : Outcome) : Type 0 where
  pub taken : (c' : Counts) → answer ≡ Ok c' → (c.places < limit) × (c' ≡ with_places c (c.places + 1))
  pub follows : (b : Bench) (l : Lent) (m : Memory) → b.room.places ≡ limit → l.places ≡ places → Applicable (database b.file) b.asked a
      → Shown b l c m → Ends (Shown b (with_places_table l places')) (add_place b.room m (applies a)) answer

-- a roster label takes the next place as the definition says
pub record PreparesRoster (f syms stmts : List ℕ) (p : ℕ) (label numbers pool places : List ℕ) (c : Counts) (limits : Limits)
    (numbers' pool' places' : List ℕ) (answer : Outcome) : Type 0 where
  pub taken : (c' : Counts) → answer ≡ Ok c' → Taken limits c 1 c'
  pub follows : (text stack locals tree : List ℕ) (m : Memory) → Filed f syms stmts → p < length (database f).statements
      → Shown (bench f syms stmts p limits text) (lent numbers pool stack places locals tree) c m
      → Ends (Shown (bench f syms stmts p limits text) (lent numbers' pool' stack places' locals tree))
      (prepare_roster (database f) p (room_of limits) m label) answer

-- the listed hypotheses of the statement at `at` take places as the definition says
pub record Preloads (f syms stmts : List ℕ) (at : ℕ) (numbers pool places : List ℕ) (c : Counts) (limits : Limits) (numbers' pool' places' : List ℕ)
    (answer : Outcome) : Type 0 where
  pub taken : (c' : Counts) → answer ≡ Ok c' → Taken limits c (length (statement_at f at).hyps) c'
  pub follows : (p : ℕ) (text stack locals tree : List ℕ) (m : Memory) → Filed f syms stmts → Located f p at
      → Shown (bench f syms stmts p limits text) (lent numbers pool stack places locals tree) c m
      → Ends (Shown (bench f syms stmts p limits text) (lent numbers' pool' stack places' locals tree))
      (preload (database f) (room_of limits) (statement_of (database f) p).hyps m) answer
