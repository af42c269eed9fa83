-- What a word of a recorded derivation names: its statement, by the offset, and the words of the derivations below it.
use Rattle.std.specs.Prelude.{ℕ, ◌+◌, ◌/◌, ◌%◌, ◌≡◌, List, [], length, get_or}
use Rattle.frames.specs.Logic.{below, at_most, equal, pick, rows}
use Rattle.frames.specs.Database.{statement_at}
use Rattle.packed.specs.Pool.{written}

-- a number as an offset; 0 for one that is too large
unfoldable pub as_offset : ℕ → ℕ
as_offset n = pick (below n 4294967296) n 0

-- the offset of the statement that a word names: half of an even word; for an odd one it stands in the entry
unfoldable pub offset_of : List ℕ → ℕ → ℕ
offset_of entries word = as_offset (pick (equal (word % 2) 0) (word / 2) (get_or entries (word / 2) 0))

-- n entries from `from` on
unfoldable pub entries_from : List ℕ → ℕ → ℕ → List ℕ
entries_from entries from n = rows (λ i. get_or entries i 0) 1 n from

-- the words that stand behind the assertion of an odd word, one for each of its hypotheses; an even word has none
unfoldable pub words_below : List ℕ → List ℕ → ℕ → List ℕ
words_below f entries word =
    pick (equal (word % 2) 0) [] (entries_from entries (word / 2 + 1) (length (statement_at f (offset_of entries word)).hyps))

-- words are put on the `depth` ones of a table, where there is room for all of them; else nothing is changed
pub record PushesWords (words : List ℕ) (depth : ℕ) (pending pending' : List ℕ) (depth' : ℕ) : Type 0 where
  pub table : pending' ≡ pick (at_most (depth + length words) (length pending)) (written words depth pending) pending
  pub count : depth' ≡ pick (at_most (depth + length words) (length pending)) (depth + length words) depth
