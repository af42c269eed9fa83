-- A step by its place: which result of the definition the answer is, for every memory that the tables show.
use Rattle.std.specs.Prelude.{ℕ, ◌*◌, ◌≤◌, ◌<◌, ◌≡◌, List, length, Ok}
use Rattle.frames.specs.Database.{database}
use Rattle.machine.specs.Chain.{bind}
use Rattle.machine.specs.Memory.{Memory}
use Rattle.machine.specs.Prepare.{prepare_place}
use Rattle.machine.specs.Apply.{run_ready}
use Rattle.resolve.specs.Filed.{Filed}
use Rattle.memory.specs.declared.table.Row.{Row}
use Rattle.memory.specs.declared.Counts.{Counts}
use Rattle.memory.specs.declared.Limits.{Limits}
use Rattle.memory.specs.Outcome.{Outcome}
use Rattle.memory.specs.Shown.{room_of, bench, lent, mark_of, Shown, Ends}
use Rattle.apply.specs.Hyps.{Ranged}
use Rattle.apply.specs.Step.{Under}

-- a row with this mark
abbrev pub marked_row : Row → ℕ → ℕ → Row
marked_row row tag end =
    record { head = row.head; from = row.from; to = row.to; tag = tag; end = end; node = row.node; vars = row.vars }

-- the step at place k
pub record RunsPlace (f syms stmts text table froms tos sets pool stack tree places : List ℕ) (k : ℕ) (c : Counts) (limits : Limits) (tag end : ℕ)
    (froms' tos' sets' pool' stack' tree' : List ℕ) (answer : Outcome) : Type 0 where
  pub ranged : Ranged froms' tos' c.used
  pub froms_sized : length froms' ≡ length froms
  pub tos_sized : length tos' ≡ length tos
  pub sets_sized : length sets' ≡ length sets
  pub tree_sized : length tree' ≡ length tree
  pub grows : (c' : Counts) → answer ≡ Ok c' → c.used ≤ c'.used
  pub follows : (p : ℕ) (numbers locals : List ℕ) (m : Memory) → Filed f syms stmts → p < length (database f).statements → Under f p table
      → length (database f).symbols ≤ length froms → length (database f).symbols ≤ length tos → 4 * length (database f).symbols ≤ length sets
      → Shown (bench f syms stmts p limits text) (lent numbers pool stack places locals tree) c m
      → Ends (Shown (bench f syms stmts p limits text) (lent numbers pool' stack' places locals tree'))
      (bind (prepare_place m k) (run_ready (database f) p (room_of limits) (mark_of text tag end))) answer
