-- The disjoint table of the statement under check, by the numbers of variables, and what the test of an assertion against it tells.
use Rattle.std.specs.Prelude.{ℕ, ◌+◌, ◌*◌, ◌≤◌, ◌<◌, ◌≡◌, Bool, true, List, length, get_or}
use Rattle.book.specs.Book.{Substitution}
use Rattle.frames.specs.Logic.{pick, both, all, any}
use Rattle.frames.specs.Database.{database}
use Rattle.frames.specs.Facts.{◌∈◌, statement_of}
use Rattle.bitset.specs.Sets.{member, insert}
use Rattle.bitset.specs.Sets as bits
use Rattle.machine.specs.Ground.{is_variable, among, mandatory, frame_pairs}
use Rattle.machine.specs.Apply.{is_pair, keeps}
use Rattle.machine.specs.Run.{members}
use Rattle.packed.specs.Images.{set_of, number_in, Numbers}
use Rattle.packed.specs.Lists.{Located}
use Rattle.variables.specs.Numbering.{Numbered}
use Rattle.resolve.specs.Filed.{Filed}

-- a and b are the numbers of the members of pair q, in either order
unfoldable pub pair_numbers : List ℕ → ℕ → ℕ → ℕ × ℕ → Bool
pair_numbers vs a b q = is_pair a b (number_in vs q.0, number_in vs q.1)

-- b stands in row a exactly when they are the numbers of a disjoint pair
pub record Tabled (pairs : List (ℕ × ℕ)) (vs table : List ℕ) : Type 0 where
  pub tells : (a b : ℕ) → a < 256 → b < 256 → member (set_of table a) b ≡ any (pair_numbers vs a b) pairs

-- 256 rows of four words, all of them 0
pub record Cleared (table : List ℕ) : Type 0 where
  pub sized : length table ≡ 1024
  pub zero : (i : ℕ) → get_or table i 0 ≡ 0

-- the pair of l and r is entered both ways: each number into the row of the other
pub record Enters (numbers : List ℕ) (l r : ℕ) (table table' : List ℕ) : Type 0 where
  pub sized : length table' ≡ length table
  pub enters : (a b : ℕ) → get_or numbers l 0 ≡ a + 1 → get_or numbers r 0 ≡ b + 1 → a < 256 → b < 256
      → table' ≡ insert (insert table (256 * a + b)) (256 * b + a)

-- a cleared table is filled with these pairs, whose members are among the numbered variables
pub record Fills (numbers : List ℕ) (pairs : List (ℕ × ℕ)) (table table' : List ℕ) : Type 0 where
  pub sized : length table' ≡ length table
  pub fills : (vs : List ℕ) (count : ℕ) → Cleared table → Numbered numbers count vs → length vs ≤ 256
      → ((v : ℕ) → v ∈ members pairs → v ∈ vs) → ((v : ℕ) → v ∈ members pairs → v < length numbers) → Tabled pairs vs table'

-- every number of ys stands in row a
unfoldable pub row_has : List ℕ → List ℕ → ℕ → Bool
row_has table ys a = all (member (set_of table a)) ys

-- every number of ys stands in the row of every number of xs
unfoldable pub apart : List ℕ → List ℕ → List ℕ → Bool
apart table xs ys = all (row_has table ys) xs

-- the images of pair q are disjoint by their sets, if both members are among the mandatory variables ms
unfoldable pub keeps_at : List ℕ → List ℕ → List ℕ → ℕ × ℕ → Bool
keeps_at ms sets table q =
    pick (both (among ms q.0) (among ms q.1)) (apart table (bits.members (set_of sets q.0)) (bits.members (set_of sets q.1))) true

-- the answer tells whether v is a mandatory variable of the statement at `at`
pub record TellsMandatory (f stmts : List ℕ) (at v : ℕ) (answer : Bool) : Type 0 where
  pub tells : (syms : List ℕ) (a : ℕ) → Filed f syms stmts → Located f a at
      → answer ≡ among (mandatory (database f) (statement_of (database f) a).hyps) v

-- the answer tells whether assertion a, under a substitution, keeps the disjoint pairs of statement p, where the table has those pairs and
-- the sets have the numbers of the variables of the images
pub record Keeps (f stmts : List ℕ) (at : ℕ) (sets table : List ℕ) (answer : Bool) : Type 0 where
  pub tells : (syms : List ℕ) (a p : ℕ) (σ : Substitution) (vs : List ℕ) → Filed f syms stmts → Located f a at → length vs ≤ 256
      → Tabled (statement_of (database f) p).pairs vs table
      → ((v : ℕ) → v ∈ members (statement_of (database f) p).pairs → v ∈ vs)
      → ((v : ℕ) → v ∈ mandatory (database f) (statement_of (database f) a).hyps → Numbers (database f) vs (σ v) (set_of sets v))
      → ((v w : ℕ) → v ∈ mandatory (database f) (statement_of (database f) a).hyps → w ∈ σ v → is_variable (database f) w ≡ true → w ∈ vs)
      → answer ≡ all (keeps (database f) (statement_of (database f) p).pairs σ) (frame_pairs (database f) (statement_of (database f) a))
