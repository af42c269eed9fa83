-- What is written of a recorded derivation, from the end to the front. In the definitions a space stands before the output, at its byte 0: then every label has a
-- space before it, also the first, and the text of the whole is that of `following`.
use Rattle.std.specs.Prelude.{ℕ, suc, ◌+◌, ◌-◌, ◌≤◌, ◌≡◌, List, [], ◌∷◌, ◌++◌, length, get_or, drop}
use Rattle.book.specs.Book.{Tree}
use Rattle.frames.specs.Logic.{below, pick}
use Rattle.frames.specs.Database.{database, GoodFile}
use Rattle.packed.specs.Pool.{written}
use Rattle.postorder.specs.LongForm.{post_order, following, long_text, tree_size}
use Rattle.tree.specs.Recorded.{Applications, Denotes, Recorded}

-- a label with a space before it ends right before `end`, where it fits, and else nothing is changed; where it begins
pub record Puts (label : List ℕ) (end : ℕ) (out out' : List ℕ) (from : ℕ) : Type 0 where
  pub begins : from ≡ end - suc (length label)
  pub stands : 32 ∷ out' ≡ pick (below (length label) end) (written (32 ∷ label) from (32 ∷ out)) (32 ∷ out)

-- the first `depth` words of a table, from the bottom up, denote derivations whose post-orders, one after another, are this list
pub data Pending (f : List ℕ) (kept : Applications) (table : List ℕ) : ℕ → List ℕ → Type 0 where
  none : {depth : ℕ} → depth ≡ 0 → Pending f kept table depth []
  top : {depth left : ℕ} {tree : Tree} {order whole : List ℕ} → Pending f kept table left order → depth ≡ left + 1
      → Denotes f kept (get_or table left 0) tree → whole ≡ order ++ post_order tree → Pending f kept table depth whole

-- what the pending words denote, with a space before each label, takes the bytes up to `end`, and is with the bytes from there on the whole
pub record Remains (f : List ℕ) (kept : Applications) (table : List ℕ) (depth end : ℕ) (out whole : List ℕ) : Type 0 where
  pub order : List ℕ
  pub pending : Pending f kept table depth order
  pub room : length (following (database f) order) ≡ end
  pub is : following (database f) order ++ drop end (32 ∷ out) ≡ whole

-- what the pending words denote is written so that it ends at byte `size` of the output; nothing after that is touched. (What the table of pending words holds then
-- is of no meaning)
pub record WritesPending (f entries table : List ℕ) (depth size : ℕ) (out out' : List ℕ) : Type 0 where
  pub past : drop size out' ≡ drop size out
  pub follows : (kept : Applications) (n : ℕ) (whole : List ℕ) → GoodFile f → Recorded f entries kept n → size ≤ 65536 → 32768 ≤ length table
      → Remains f kept table depth (size + 1) out whole → 32 ∷ out' ≡ whole

-- the text of the derivation that a word denotes is written into the front of the output, where it takes `size` bytes; nothing after it is touched
pub record WritesText (f entries : List ℕ) (word size : ℕ) (table out out' : List ℕ) : Type 0 where
  pub sized : length out' ≡ length out
  pub past : drop size out' ≡ drop size out
  pub follows : (kept : Applications) (n : ℕ) (tree : Tree) → GoodFile f → Recorded f entries kept n → Denotes f kept word tree
      → tree_size (database f) tree ≡ size + 1 → size ≤ 65536 → size ≤ length out → 32768 ≤ length table
      → out' ≡ long_text (database f) tree ++ drop size out
