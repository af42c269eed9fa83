-- How the lent tree entries hold the derivation of a run. Each derivation has a word. That of a hypothesis is twice the offset of its statement, and takes
-- no entry. That of an application is one more than twice the number of the entry where it was recorded: there stands the offset of its assertion, and
-- after it the words of the derivations of its hypotheses, in frame order. Nothing that was recorded is changed, and a recall is the same word again.
use Rattle.std.specs.Prelude.{ℕ, ◌+◌, ◌*◌, ◌<◌, ◌≡◌, List, [], ◌∷◌, length, get_or}
use Rattle.book.specs.Book.{Tree, leaf, node, Forest, empty, and}
use Rattle.frames.specs.Database.{database}
use Rattle.frames.specs.Facts.{statement_of}
use Rattle.packed.specs.Lists.{Located}

-- the applications that are recorded, the last one first: each with the number of its first entry
abbrev pub Applications : Type 0
Applications = List (ℕ × Tree)

-- this application is among them
pub data Among (from : ℕ) (tree : Tree) : Applications → Type 0 where
  last : {n : ℕ} {t : Tree} {kept : Applications} → n ≡ from → t ≡ tree → Among from tree ((n, t) ∷ kept)
  earlier : {x : ℕ × Tree} {kept : Applications} → Among from tree kept → Among from tree (x ∷ kept)

-- the second list has all that the first has
abbrev pub Within : Applications → Applications → Type 0
Within kept kept' = (from : ℕ) (tree : Tree) → Among from tree kept → Among from tree kept'

-- the same entries up to n
abbrev pub SameUpTo : List ℕ → List ℕ → ℕ → Type 0
SameUpTo entries entries' n = (i : ℕ) → i < n → get_or entries' i 0 ≡ get_or entries i 0

-- a word stands for a derivation
pub data Denotes (f : List ℕ) (kept : Applications) : ℕ → Tree → Type 0 where
  hypothesis : {word h at : ℕ} → Located f h at → word ≡ 2 * at → Denotes f kept word (leaf h)
  application : {word from : ℕ} {tree : Tree} → Among from tree kept → word ≡ 2 * from + 1 → Denotes f kept word tree

-- the `count` entries from `from` on are the words of these derivations
pub data DenotesAll (f : List ℕ) (kept : Applications) (entries : List ℕ) : ℕ → ℕ → Forest → Type 0 where
  nothing : {from count : ℕ} → count ≡ 0 → DenotesAll f kept entries from count empty
  more : {from next count many : ℕ} {tree : Tree} {trees : Forest} → next ≡ from + 1 → many ≡ count + 1 → Denotes f kept (get_or entries from 0) tree
      → DenotesAll f kept entries next count trees → DenotesAll f kept entries from many (and tree trees)

-- the first n entries are these applications, one after another
pub data Recorded (f entries : List ℕ) : Applications → ℕ → Type 0 where
  start : {n : ℕ} → n ≡ 0 → Recorded f entries [] n
  further : {kept : Applications} {n next a at : ℕ} {trees : Forest} → Recorded f entries kept n → Located f a at → get_or entries n 0 ≡ at
      → DenotesAll f kept entries (n + 1) (length (statement_of (database f) a).hyps) trees → next ≡ n + 1 + length (statement_of (database f) a).hyps
      → Recorded f entries ((n, node a trees) ∷ kept) next

-- the same from the front: what is recorded after the applications that end at n
pub data Onward (f entries : List ℕ) (all : Applications) (end : ℕ) : Applications → ℕ → Type 0 where
  done : {n : ℕ} → n ≡ end → Onward f entries all end all n
  then : {kept : Applications} {n next a at : ℕ} {trees : Forest} → Located f a at → get_or entries n 0 ≡ at
      → DenotesAll f kept entries (n + 1) (length (statement_of (database f) a).hyps) trees → next ≡ n + 1 + length (statement_of (database f) a).hyps
      → Onward f entries all end ((n, node a trees) ∷ kept) next → Onward f entries all end kept n

-- the first n entries hold the derivation that this word stands for
pub record Held (f entries : List ℕ) (n word : ℕ) (tree : Tree) : Type 0 where
  pub kept : Applications
  pub recorded : Recorded f entries kept n
  pub denotes : Denotes f kept word tree
