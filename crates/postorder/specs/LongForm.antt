-- The long form of an accepted proof: the labels of the derivation that the run built, in post-order, one space between; and the answer of
-- the call that writes it.
use Rattle.std.specs.Prelude.{ℕ, suc, ◌+◌, ◌-◌, ◌*◌, min, Bool, List, [], ◌∷◌, ◌++◌, length, take, drop}
use Rattle.std.proofs.Math.Option.{Option, none, some}
use Rattle.book.specs.Book.{Tree, leaf, node, Forest, empty, and}
use Rattle.frames.specs.Logic.{below, at_most, pick}
use Rattle.frames.specs.Layout.{next_at}
use Rattle.frames.specs.Database.{Database, database}
use Rattle.frames.specs.Facts.{statement_of}
use Rattle.machine.specs.Answer.{Answer, accepted, refused, turned_away, not_provable, number, place, steps}
use Rattle.machine.specs.Memory.{Room, is_some}
use Rattle.machine.specs.Apply.{label_of}
use Rattle.machine.specs.Bench.{answer}
use Rattle.machine.specs.Files.{proof}

-- the statements of a tree in post-order: those of the trees below it, which stand in the order of the frame's hypotheses, then its own
unfoldable mutual
  pub post_order : Tree → List ℕ
  post_order (leaf h) = h ∷ []
  post_order (node a trees) = post_orders trees ++ (a ∷ [])

  pub post_orders : Forest → List ℕ
  post_orders empty = []
  post_orders (and tree trees) = post_order tree ++ post_orders trees

-- each label with one space before it
unfoldable pub following : Database → List ℕ → List ℕ
following db [] = []
following db (s ∷ ss) = 32 ∷ (label_of db s ++ following db ss)

-- labels joined by one space, nothing before them and nothing after
unfoldable pub joined : Database → List ℕ → List ℕ
joined db [] = []
joined db (s ∷ ss) = label_of db s ++ following db ss

-- the text of the long form
unfoldable pub long_text : Database → Tree → List ℕ
long_text db tree = joined db (post_order tree)

-- the bytes of a label and one space
unfoldable pub label_size : Database → ℕ → ℕ
label_size db s = suc (length (label_of db s))

-- the bytes of all labels of a tree, each with a space
unfoldable mutual
  pub tree_size : Database → Tree → ℕ
  tree_size db (leaf h) = label_size db h
  tree_size db (node a trees) = forest_size db trees + label_size db a

  pub forest_size : Database → Forest → ℕ
  forest_size db empty = 0
  forest_size db (and tree trees) = tree_size db tree + forest_size db trees

-- the length of the text, without the text: there is one space fewer than there are labels
unfoldable pub text_length : Database → Tree → ℕ
text_length db tree = tree_size db tree - 1

-- n less k, or none where k is more
unfoldable pub less_by : ℕ → ℕ → Option ℕ
less_by k n = pick (at_most k n) (some (n - k)) none

unfoldable pub and_then : Option ℕ → (ℕ → Option ℕ) → Option ℕ
and_then none next = none
and_then (some n) next = next n

-- what a tree leaves of n bytes, or none as soon as they do not suffice: so no more than n bytes are ever counted
unfoldable mutual
  pub spare : Database → Tree → ℕ → Option ℕ
  spare db (leaf h) n = less_by (label_size db h) n
  spare db (node a trees) n = and_then (less_by (label_size db a) n) (λ k. spares db trees k)

  pub spares : Database → Forest → ℕ → Option ℕ
  spares db empty n = some n
  spares db (and tree trees) n = and_then (spare db tree n) (λ k. spares db trees k)

-- the text has at most n bytes
unfoldable pub fits : Database → Tree → ℕ → Bool
fits db tree n = is_some (spare db tree (suc n))

-- the answer of the long-form call: number, place, steps, and what is written
pub record LongAnswer : Type 0 where
  pub number : ℕ
  pub place : ℕ
  pub steps : ℕ
  pub text : List ℕ

-- a refusal writes nothing
unfoldable pub nothing_written : ℕ → ℕ → ℕ → LongAnswer
nothing_written n at completed = record { number = n; place = at; steps = completed; text = [] }

-- success: 0, the length written, the proof's steps, the text
unfoldable pub written : ℕ → List ℕ → LongAnswer
written completed text = record { number = 0; place = length text; steps = completed; text = text }

-- how many tree entries the long form of a proof with so many steps takes
unfoldable pub entries_for : ℕ → ℕ
entries_for completed = 2 * completed - 1

-- the greatest length of a long form, where so many bytes of output are lent
unfoldable pub most_bytes : ℕ → ℕ
most_bytes output = min output 65536

-- the proof's refusal, or 1 to 8; else 60 exactly when the tree entries are too few; else 61 exactly when the text is too long
unfoldable pub long_of : Database → ℕ → ℕ → Answer → LongAnswer
long_of db entries output (accepted at completed consumed tree) =
    pick (below entries (entries_for completed)) (nothing_written 60 at completed)
    (pick (fits db tree (most_bytes output)) (written completed (long_text db tree))
    (nothing_written 61 at completed))
long_of db entries output (refused why at completed) =
    nothing_written (number (refused why at completed)) (place (refused why at completed)) (steps (refused why at completed))
long_of db entries output (turned_away why at) =
    nothing_written (number (turned_away why at)) (place (turned_away why at)) (steps (turned_away why at))
long_of db entries output not_provable = nothing_written (number not_provable) (place not_provable) (steps not_provable)

-- for a frame file, a statement number, the room lent to the run, and how many tree entries and output bytes are lent
unfoldable pub long_answer : List ℕ → ℕ → Room → ℕ → ℕ → LongAnswer
long_answer file p room entries output = long_of (database file) entries output (answer file p room)

-- where the proof record of statement p begins
unfoldable pub proof_from : List ℕ → ℕ → ℕ
proof_from file p = next_at file (statement_of (database file) p).at

-- the file with this text as the proof of statement p: the same bytes but for that proof record
unfoldable pub with_proof : List ℕ → ℕ → List ℕ → List ℕ
with_proof file p text =
    take (proof_from file p) file ++ (proof text ++ drop (next_at file (proof_from file p)) file)
