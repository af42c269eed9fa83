-- What recording an application leaves in the tree entries.
use Rattle.std.specs.Prelude.{ℕ, ◌+◌, ◌*◌, ◌≤◌, ◌<◌, ◌%◌, ◌≡◌, List, length, get_or}
use Rattle.memory.specs.Table.{word}
use Rattle.tree.specs.Recorded.{SameUpTo}
use Rattle.recording.specs.declared.Noted.{Noted}

-- the word of the derivation of the entry in seat j, counted from `base`
abbrev pub seat_node : List ℕ → ℕ → List ℕ → ℕ → ℕ
seat_node stack base seats j = word stack (base + get_or seats j 0 % 64) 5

-- the words of the first n seats stand in the tree from `from` on, and what is before it is as it was
pub record PutsNodes (stack : List ℕ) (base : ℕ) (seats : List ℕ) (n : ℕ) (tree : List ℕ) (from : ℕ) (tree' : List ℕ) : Type 0 where
  pub sized : length tree' ≡ length tree
  pub same : SameUpTo tree tree' from
  pub puts : (j : ℕ) → j < n → get_or tree' (from + j) 0 ≡ seat_node stack base seats j

-- behind the `used` entries stand the assertion's offset and the words of its hypotheses' derivations, where they fit; what is before them is as it was
pub record Notes (at : ℕ) (stack : List ℕ) (base : ℕ) (seats : List ℕ) (n : ℕ) (tree : List ℕ) (used : ℕ) (tree' : List ℕ) (noted : Noted) : Type 0 where
  pub sized : length tree' ≡ length tree
  pub same : SameUpTo tree tree' used
  pub few : noted.nodes ≤ used + 1 + n
  pub sooner : noted.nodes ≤ length tree → used ≤ length tree
  pub nodes_is : noted.nodes ≤ length tree → noted.nodes ≡ used + 1 + n
  pub word_is : noted.nodes ≤ length tree → noted.word ≡ 2 * used + 1
  pub heads : noted.nodes ≤ length tree → get_or tree' used 0 ≡ at
  pub puts : noted.nodes ≤ length tree → (j : ℕ) → j < n → get_or tree' (used + 1 + j) 0 ≡ seat_node stack base seats j
