-- A table of rows, ten words each: what a row says, and what storing one leaves. The stack and the places are such tables.
use Rattle.std.specs.Prelude.{ℕ, ◌+◌, ◌*◌, ◌≡◌, List, [], ◌∷◌, get_or}
use Rattle.packed.specs.Pool.{written}
use Rattle.memory.specs.declared.table.Row.{Row}

-- word j of row k; 0 past the end
unfoldable pub word : List ℕ → ℕ → ℕ → ℕ
word table k j = get_or table (10 * k + j) 0

-- the four words from i on
pub record SetAt (table : List ℕ) (i : ℕ) (words : List ℕ) : Type 0 where
  pub is : words ≡ get_or table i 0 ∷ get_or table (i + 1) 0 ∷ get_or table (i + 2) 0 ∷ get_or table (i + 3) 0 ∷ []

-- row k of the table
pub record RowAt (table : List ℕ) (k : ℕ) (row : Row) : Type 0 where
  pub head : row.head ≡ word table k 0
  pub from : row.from ≡ word table k 1
  pub to : row.to ≡ word table k 2
  pub tag : row.tag ≡ word table k 3
  pub end : row.end ≡ word table k 4
  pub node : row.node ≡ word table k 5
  pub vars : row.vars.words ≡ word table k 6 ∷ word table k 7 ∷ word table k 8 ∷ word table k 9 ∷ []

-- the words of a row
unfoldable pub row_words : Row → List ℕ
row_words row =
    row.head ∷ row.from ∷ row.to ∷ row.tag ∷ row.end ∷ row.node ∷ get_or row.vars.words 0 0 ∷ get_or row.vars.words 1 0
    ∷ get_or row.vars.words 2 0 ∷ get_or row.vars.words 3 0 ∷ []

-- the table with this row at k
unfoldable pub with_row : Row → ℕ → List ℕ → List ℕ
with_row row k table = written (row_words row) (10 * k) table
