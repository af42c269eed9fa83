-- How long the text of a recorded derivation is: for each application that the tree entries hold, the bytes of all labels of its tree, each with a space, in one
-- pass over the entries. A part that is shared is counted wherever it stands, and is measured once. No text that fits has a size above 65,537, so sizes are told
-- apart up to 65,538 only, and no sum overflows.
use Rattle.std.specs.Prelude.{ℕ, zero, suc, ◌+◌, ◌/◌, ◌%◌, ◌≤◌, min, ◌≡◌, List, length, get_or, set}
use Rattle.book.specs.Book.{Tree}
use Rattle.frames.specs.Logic.{below, equal, pick}
use Rattle.frames.specs.Database.{database, statement_at, GoodFile}
use Rattle.postorder.specs.LongForm.{tree_size}
use Rattle.tree.specs.Recorded.{Applications, Denotes, Recorded}

-- a size as far as it is told apart
unfoldable pub capped : ℕ → ℕ
capped n = min n 65538

-- an entry as an offset, which has 32 bits
unfoldable pub offset_of : ℕ → ℕ
offset_of entry = min entry 4294967295

-- the label of the statement at an offset, with one space
unfoldable pub label_size_at : List ℕ → ℕ → ℕ
label_size_at f at = capped (length (statement_at f (offset_of at)).label + 1)

-- the size of the derivation that a word stands for, where a table has the sizes of the applications by the numbers of their first entries
unfoldable pub size_at : List ℕ → List ℕ → ℕ → ℕ
size_at f sizes word = pick (equal (word % 2) 0) (label_size_at f (word / 2)) (get_or sizes (word / 2) 0)

-- the sizes of the `count` words from `from` on, together
unfoldable pub words_size : List ℕ → List ℕ → List ℕ → ℕ → ℕ → ℕ
words_size f entries sizes zero from = 0
words_size f entries sizes (suc count) from = size_at f sizes (get_or entries from 0) + words_size f entries sizes count (from + 1)

-- how many words follow the first entry of the application at `from`
unfoldable pub words_at : List ℕ → List ℕ → ℕ → ℕ
words_at f entries from = length (statement_at f (offset_of (get_or entries from 0))).hyps

-- the size of the application at `from`
unfoldable pub application_size : List ℕ → List ℕ → List ℕ → ℕ → ℕ
application_size f entries sizes from =
    capped (label_size_at f (get_or entries from 0) + words_size f entries sizes (words_at f entries from) (from + 1))

-- the table after the applications from `at` up to n were measured, at most `turns` of them
unfoldable pub measured_from : List ℕ → List ℕ → ℕ → ℕ → ℕ → List ℕ → List ℕ
measured_from f entries n zero at sizes = sizes
measured_from f entries n (suc turns) at sizes =
    pick (below at n) (measured_from f entries n turns (at + 1 + words_at f entries at) (set sizes at (application_size f entries sizes at))) sizes

-- the table after the first n entries were measured, as far as it reaches
unfoldable pub measured : List ℕ → List ℕ → ℕ → List ℕ → List ℕ
measured f entries n sizes = measured_from f entries (min n (length sizes)) (min n (length sizes)) 0 sizes

-- the table is as defined; and where n entries hold a derivation, it tells the size of each part
pub record Measures (f entries : List ℕ) (n : ℕ) (sizes sizes' : List ℕ) : Type 0 where
  pub is : sizes' ≡ measured f entries n sizes
  pub sized : length sizes' ≡ length sizes
  pub tells : (kept : Applications) → GoodFile f → Recorded f entries kept n → n ≤ length sizes → (word : ℕ) (tree : Tree) → Denotes f kept word tree
      → size_at f sizes' word ≡ capped (tree_size (database f) tree)
