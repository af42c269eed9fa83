-- The claim of an assertion as substituted: its row, and which result of the definition the answer is.
use Rattle.std.specs.Prelude.{ℕ, ◌+◌, ◌≤◌, ◌≡◌, List, length, Ok}
use Rattle.book.specs.Book.{Substitution, node}
use Rattle.frames.specs.Database.{database, statement_at}
use Rattle.frames.specs.Facts.{◌∈◌, statement_of, typecode}
use Rattle.machine.specs.Ground.{mandatory}
use Rattle.machine.specs.Memory.{Proved, Memory}
use Rattle.machine.specs.Apply.{forest, conclude, conclusion}
use Rattle.packed.specs.Lists.{Located, Gathers}
use Rattle.resolve.specs.Filed.{Filed}
use Rattle.memory.specs.declared.table.Row.{Row}
use Rattle.memory.specs.declared.Counts.{Counts}
use Rattle.memory.specs.declared.Limits.{Limits}
use Rattle.memory.specs.Outcome.{Outcome}
use Rattle.memory.specs.Shown.{room_of, bench, lent, mark_of, Records, Shown, Ends}
use Rattle.apply.specs.Hyps.{ImageShown}

-- the row of a claim: its typecode, the range that its symbols take, its mark, the word of its derivation, and the set of the variables of the images
pub record ClaimRow (f syms : List ℕ) (at : ℕ) (sets : List ℕ) (from to tag end word : ℕ) (row : Row) : Type 0 where
  pub head : row.head ≡ typecode (statement_at f at)
  pub from_is : row.from ≡ from
  pub to_is : row.to ≡ to
  pub tag_is : row.tag ≡ tag
  pub end_is : row.end ≡ end
  pub word_is : row.node ≡ word
  pub vars : Gathers f syms at sets row.vars.words
  pub sized : length row.vars.words ≡ 4

-- the claim as substituted replaces the top h entries, as the definition says; its row has the word that the step records
pub record Finalizes (f syms : List ℕ) (at : ℕ) (froms tos sets pool stack : List ℕ) (c : Counts) (limits : Limits) (left tag end word nodes : ℕ)
    (pool' stack' : List ℕ) (answer : Outcome) : Type 0 where
  pub grows : (c' : Counts) → answer ≡ Ok c' → c.used ≤ c'.used
  pub pool_sized : length pool' ≡ length pool
  pub follows : (stmts : List ℕ) (p : ℕ) (text numbers places locals tree : List ℕ) (a : ℕ) (σ : Substitution) (xs : List Proved) (h : ℕ) (m : Memory)
      → Filed f syms stmts → Located f a at → 4 ≤ (statement_of (database f) a).kind
      → ((v : ℕ) → v ∈ mandatory (database f) (statement_of (database f) a).hyps
      → ImageShown (database f) m.variables pool c.used froms tos sets v (σ v))
      → c.depth ≡ left + h → Shown (bench f syms stmts p limits text) (lent numbers pool stack places locals tree) c m
      → Records f tree c.nodes stack c.depth places m.stack m.places nodes h word (node a (forest xs))
      → Ends (Shown (bench f syms stmts p limits text) (lent numbers pool' stack' places locals tree))
      (conclude (database f) (room_of limits) m (mark_of text tag end) h (conclusion (database f) a σ xs)) answer
