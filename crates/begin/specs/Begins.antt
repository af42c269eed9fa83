-- The start of a run, said of the definition: for every good file and every memory that is lent blank, the outcome is the definition's, and the
-- tables show the memory that the run begins with.
use Rattle.std.specs.Prelude.{ℕ, ◌*◌, ◌≤◌, ◌≡◌, List, length, get_or, Ok}
use Rattle.frames.specs.Database.{database}
use Rattle.machine.specs.Run.{first_variables, admitted}
use Rattle.packed.specs.Lists.{Located}
use Rattle.variables.specs.Numbering.{Numbered}
use Rattle.resolve.specs.Filed.{Filed}
use Rattle.memory.specs.declared.Counts.{Counts}
use Rattle.memory.specs.declared.Limits.{Limits}
use Rattle.memory.specs.Outcome.{Outcome}
use Rattle.memory.specs.Shown.{bench, lent, Shown, Ends}

-- no variable has a number yet, and each symbol of the file has an entry
pub record Unnumbered (f numbers : List ℕ) : Type 0 where
  pub zeros : (v : ℕ) → get_or numbers v 0 ≡ 0
  pub sized : length (database f).symbols ≤ length numbers

-- the tables are as large as the limits ask, the limits within those of document 01, and the tree entries no more than a proof can use
pub record Roomy (limits : Limits) (pool stack places locals tree : List ℕ) : Type 0 where
  pub pool_sized : limits.pool ≤ length pool
  pub stack_limit : limits.stack ≤ 1024
  pub stack_sized : 10 * limits.stack ≤ length stack
  pub places_limit : limits.places ≤ 4096
  pub places_sized : 10 * limits.places ≤ length places
  pub locals_sized : 12288 ≤ length locals
  pub tree_limit : length tree ≤ 131072

-- the proof of the statement at `at` is admitted as the definition admits it; where it goes on, the table has the first variables
pub record Begins (f stmts : List ℕ) (at : ℕ) (text numbers numbers' : List ℕ) (answer : Outcome) : Type 0 where
  pub sized : length numbers' ≡ length numbers
  pub follows : (syms : List ℕ) (p : ℕ) (limits : Limits) (pool stack places locals tree : List ℕ) → Filed f syms stmts → Located f p at
      → Unnumbered f numbers → Roomy limits pool stack places locals tree
      → Ends (Shown (bench f syms stmts p limits text) (lent numbers' pool stack places locals tree)) (admitted (database f) p text) answer
  pub numbered : (syms : List ℕ) (p : ℕ) (c : Counts) → Filed f syms stmts → Located f p at → Unnumbered f numbers → answer ≡ Ok c
      → Numbered numbers' c.count (first_variables (database f) p)
