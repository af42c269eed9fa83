-- The text of a recorded derivation, where it fits: what is answered, and what the output holds then. The text has at most as many bytes as the output, and at
-- most 65,536.
use Rattle.std.specs.Prelude.{ℕ, suc, ◌≤◌, ◌≡◌, List, length, Option, Some, None}
use Rattle.book.specs.Book.{Tree}
use Rattle.frames.specs.Logic.{pick}
use Rattle.frames.specs.Database.{Database, database, GoodFile}
use Rattle.frames.specs.Verdict.{laid}
use Rattle.postorder.specs.LongForm.{long_text, tree_size, fits, most_bytes}
use Rattle.sizes.specs.Measured.{capped}
use Rattle.tree.specs.Recorded.{Held}

-- the length of the text that was written, or none where it is too long
abbrev pub Written : Type 0
Written = Option ℕ

-- the answer: the length of the text, where it fits
unfoldable pub answer_of : Database → Tree → List ℕ → Written
answer_of db tree output = pick (fits db tree (most_bytes (length output))) (Some (length (long_text db tree))) None

-- the output then: the text, where it fits, and after it what stood there; else it is as it was
unfoldable pub output_of : Database → Tree → List ℕ → List ℕ
output_of db tree output = pick (fits db tree (most_bytes (length output))) (laid (long_text db tree) output) output

-- the length of the text of a derivation that is held, as far as sizes are told apart; the table of sizes has so many words
pub record Tells (f entries : List ℕ) (nodes word table told : ℕ) : Type 0 where
  pub follows : (tree : Tree) → GoodFile f → Held f entries nodes word tree → nodes ≤ table → suc told ≡ capped (tree_size (database f) tree)

-- the text of a derivation that is held is written where it fits, and is else found too long
pub record Long (db : Database) (tree : Tree) (output output' : List ℕ) (answer : Written) : Type 0 where
  pub answered : answer ≡ answer_of db tree output
  pub written : output' ≡ output_of db tree output

-- the call, where the tables have room: a size for each entry, and 32,768 pending words. (What these two tables hold is of no meaning)
pub record WritesLong (f entries : List ℕ) (nodes word : ℕ) (sizes pending output output' : List ℕ) (answer : Written) : Type 0 where
  pub sized : length output' ≡ length output
  pub untouched : answer ≡ None → output' ≡ output
  pub follows : (tree : Tree) → GoodFile f → Held f entries nodes word tree → nodes ≤ length sizes → 32768 ≤ length pending
      → Long (database f) tree output output' answer
