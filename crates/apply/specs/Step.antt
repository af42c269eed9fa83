-- A step of an assertion: which result of the definition the answer is, for every memory that the tables show.
use Rattle.std.specs.Prelude.{ℕ, ◌+◌, ◌*◌, ◌≤◌, ◌<◌, ◌≡◌, List, length, Ok}
use Rattle.book.specs.Book.{Substitution, node}
use Rattle.frames.specs.Logic.{no, all}
use Rattle.frames.specs.Database.{database}
use Rattle.frames.specs.Facts.{◌∈◌, statement_of}
use Rattle.machine.specs.declared.Refusal.TheVariants.{ProofDvViolation}
use Rattle.machine.specs.Chain.{unless}
use Rattle.machine.specs.Ground.{mandatory, frame_pairs}
use Rattle.machine.specs.Memory.{Proved, applies, Memory}
use Rattle.machine.specs.Apply.{keeps, forest, conclude, conclusion, apply_assertion, run_prepared}
use Rattle.machine.specs.Run.{members, first_variables}
use Rattle.packed.specs.Lists.{Located}
use Rattle.resolve.specs.Filed.{Filed}
use Rattle.resolve.specs.Resolve.{Applicable}
use Rattle.disjoint.specs.Disjoint.{Tabled}
use Rattle.memory.specs.declared.Counts.{Counts}
use Rattle.memory.specs.declared.Limits.{Limits}
use Rattle.memory.specs.Outcome.{Outcome}
use Rattle.memory.specs.Shown.{room_of, bench, lent, mark_of, Records, Shown, Ends}
use Rattle.apply.specs.Hyps.{Ranged, ImageShown, Seated}

-- the table has the disjoint pairs of statement p, by the numbers of its variables
pub record Under (f : List ℕ) (p : ℕ) (table : List ℕ) : Type 0 where
  pub tabled : Tabled (statement_of (database f) p).pairs (first_variables (database f) p) table
  pub known : (v : ℕ) → v ∈ members (statement_of (database f) p).pairs → v ∈ first_variables (database f) p

-- the disjointness test and the result, where the table of images shows the substitution
pub record AppliesChecked (f syms stmts : List ℕ) (at : ℕ) (table froms tos sets pool stack : List ℕ) (c : Counts) (limits : Limits) (left tag end word nodes : ℕ)
    (pool' stack' : List ℕ) (answer : Outcome) : Type 0 where
  pub grows : (c' : Counts) → answer ≡ Ok c' → c.used ≤ c'.used
  pub pool_sized : length pool' ≡ length pool
  pub follows : (p : ℕ) (text numbers places locals tree : List ℕ) (a : ℕ) (σ : Substitution) (xs : List Proved) (h : ℕ) (m : Memory)
      → Filed f syms stmts → Located f a at → 4 ≤ (statement_of (database f) a).kind → Under f p table
      → ((v : ℕ) → v ∈ mandatory (database f) (statement_of (database f) a).hyps
      → ImageShown (database f) m.variables pool c.used froms tos sets v (σ v))
      → c.depth ≡ left + h → Shown (bench f syms stmts p limits text) (lent numbers pool stack places locals tree) c m
      → Records f tree c.nodes stack c.depth places m.stack m.places nodes h word (node a (forest xs))
      → Ends (Shown (bench f syms stmts p limits text) (lent numbers pool' stack' places locals tree))
      (unless (no (all (keeps (database f) (statement_of (database f) p).pairs σ) (frame_pairs (database f) (statement_of (database f) a)))) ProofDvViolation
      (conclude (database f) (room_of limits) m (mark_of text tag end) h (conclusion (database f) a σ xs))) answer

-- all tests of an assertion on its entries, which are in their seats
pub record AppliesSeated (f syms stmts : List ℕ) (at : ℕ) (table seats froms tos sets pool stack : List ℕ) (c : Counts) (limits : Limits) (left tag end word nodes : ℕ)
    (froms' tos' sets' pool' stack' : List ℕ) (answer : Outcome) : Type 0 where
  pub ranged : Ranged froms' tos' c.used
  pub froms_sized : length froms' ≡ length froms
  pub tos_sized : length tos' ≡ length tos
  pub sets_sized : length sets' ≡ length sets
  pub grows : (c' : Counts) → answer ≡ Ok c' → c.used ≤ c'.used
  pub follows : (p : ℕ) (text numbers places locals tree : List ℕ) (a : ℕ) (xs : List Proved) (m : Memory) → 4 ≤ (statement_of (database f) a).kind → Under f p table
      → length (database f).symbols ≤ length froms → length (database f).symbols ≤ length tos → 4 * length (database f).symbols ≤ length sets
      → Seated f syms stmts at stack left seats c.used pool a xs m.variables
      → c.depth ≡ left + length (statement_of (database f) a).hyps → Shown (bench f syms stmts p limits text) (lent numbers pool stack places locals tree) c m
      → Records f tree c.nodes stack c.depth places m.stack m.places nodes (length (statement_of (database f) a).hyps) word (node a (forest xs))
      → Ends (Shown (bench f syms stmts p limits text) (lent numbers pool' stack' places locals tree))
      (apply_assertion (database f) p (room_of limits) m (mark_of text tag end) a xs) answer

-- a step of assertion a
pub record Executes (f syms stmts : List ℕ) (a : ℕ) (text table froms tos sets pool stack tree : List ℕ) (c : Counts) (limits : Limits) (tag end : ℕ)
    (froms' tos' sets' pool' stack' tree' : List ℕ) (answer : Outcome) : Type 0 where
  pub ranged : Ranged froms' tos' c.used
  pub froms_sized : length froms' ≡ length froms
  pub tos_sized : length tos' ≡ length tos
  pub sets_sized : length sets' ≡ length sets
  pub tree_sized : length tree' ≡ length tree
  pub grows : (c' : Counts) → answer ≡ Ok c' → c.used ≤ c'.used
  pub follows : (p : ℕ) (numbers places locals : List ℕ) (m : Memory) → Filed f syms stmts → p < length (database f).statements
      → Applicable (database f) p a → Under f p table → length (database f).symbols ≤ length froms → length (database f).symbols ≤ length tos → 4 * length (database f).symbols ≤ length sets
      → Shown (bench f syms stmts p limits text) (lent numbers pool stack places locals tree) c m
      → Ends (Shown (bench f syms stmts p limits text) (lent numbers pool' stack' places locals tree'))
      (run_prepared (database f) p (room_of limits) m (mark_of text tag end) (applies a)) answer
