-- The table of variable numbers: what it holds for the variables numbered so far, and what numbering one more does to it.
use Rattle.std.specs.Prelude.{ℕ, ◌+◌, ◌≤◌, ◌<◌, ◌≡◌, List, [], ◌∷◌, length, get_or}
use Rattle.frames.specs.Logic.{pick}
use Rattle.frames.specs.Facts.{◌∈◌}
use Rattle.frames.specs.Database.{statement_at}
use Rattle.frames.specs.Facts.{floated}
use Rattle.machine.specs.Ground.{among, add_if, is_float}
use Rattle.machine.specs.Prepare.{numbered}
use Rattle.machine.specs.Run.{all_numbered}
use Rattle.packed.specs.Images.{number_in}

-- the number of variable v plus 1, or 0 where it has none yet
unfoldable pub tag : List ℕ → ℕ → ℕ
tag vs v = pick (among vs v) (number_in vs v + 1) 0

-- the table and the count hold these variables, numbered in their order
pub record Numbered (table : List ℕ) (count : ℕ) (vs : List ℕ) : Type 0 where
  pub counts : count ≡ length vs
  pub tags : (v : ℕ) → v < length table → get_or table v 0 ≡ tag vs v

-- variable v is numbered, where it is not yet
pub record Maps (table : List ℕ) (count v : ℕ) (table' : List ℕ) (count' : ℕ) : Type 0 where
  pub sized : length table' ≡ length table
  pub few : count' ≤ count + 1
  pub maps : (vs : List ℕ) → v < length table → Numbered table count vs → Numbered table' count' (numbered vs v)

-- these variables are numbered one after another
pub record MapsAll (table : List ℕ) (count : ℕ) (xs table' : List ℕ) (count' : ℕ) : Type 0 where
  pub sized : length table' ≡ length table
  pub few : count' ≤ count + length xs
  pub maps : (vs : List ℕ) → ((v : ℕ) → v ∈ xs → v < length table) → Numbered table count vs → Numbered table' count' (all_numbered vs xs)

-- the variable of the statement at `at`, if it is a $f
abbrev pub float_at : List ℕ → ℕ → List ℕ
float_at f at = add_if (is_float (statement_at f at)) (floated (statement_at f at)) []

-- the variables of the $f among these statements, in their order, where the table has the statements' offsets
unfoldable pub floats_at : List ℕ → List ℕ → List ℕ → List ℕ
floats_at f stmts [] = []
floats_at f stmts (h ∷ hs) =
    add_if (is_float (statement_at f (get_or stmts h 0))) (floated (statement_at f (get_or stmts h 0))) (floats_at f stmts hs)
