-- The words that are pending: what is on top is taken off, and the words below it are put in its place.
use Prim.Native.Nat.{ℕ, ◌+◌, ◌*◌, ◌≤◌, ◌<◌}
use mathlib.Core.Path.{◌≡◌, refl, sym, ◌∙◌, ap}
use mathlib.Core.List.{List, [], ◌∷◌, ◌++◌, append_assoc, append-nil}
use native.Mathlib.Nat.{zero-add, add-zero}
use native.Mathlib.Omega.{arith}
use lib.ListN.{length, get_or, length-append}
use Rattle.book.specs.Book.{Forest}
use Rattle.frames.specs.Database.{database, GoodFile}
use Rattle.facts.proofs.GoodFacts.{good-facts}
use Rattle.machine.specs.Apply.{label_of}
use Rattle.postorder.specs.LongForm.{post_order, post_orders, following}
use Rattle.postorder.proofs.OneText.{label_some}
use Rattle.packed.specs.Lists.{Located}
use Rattle.packed.specs.Pool.{written}
use Rattle.packed.proofs.Written.{written-before}
use Rattle.tree.specs.Recorded.{Applications, DenotesAll, nothing, more, Recorded}
use Rattle.spell.specs.Words.{offset_of, words_below}
use Rattle.spell.specs.Text.{Pending, none, top}
use Rattle.spell.proofs.Opening.{word-opened}
use Rattle.spell.proofs.Spacing.{following-append, following-last, written_at}

module _ {f : List ℕ} {kept : Applications} where
  -- the same words are pending in another table
  pending-kept : {table table' : List ℕ} {depth : ℕ} {order : List ℕ} → ((i : ℕ) → i < depth → get_or table' i 0 ≡ get_or table i 0)
      → Pending f kept table depth order → Pending f kept table' depth order
  pending-kept same (none e) = none e
  pending-kept same (top {left = left} {tree = tree} rest e d is) =
      top {tree = tree} (pending-kept (λ i l. same i (omega arith)) rest) e (rw (same left (omega arith)) d) is

  -- more words stand above them
  pending-more : {table words : List ℕ} {a n depth : ℕ} {order : List ℕ} {trees : Forest} → Pending f kept table depth order
      → ((i : ℕ) → i < n → get_or table (depth + i) 0 ≡ get_or words (a + i) 0) → DenotesAll f kept words a n trees
      → Pending f kept table (depth + n) (order ++ post_orders trees)
  unfolding post_orders
  pending-more {order = order} p same (nothing e) = rw (e, add-zero, append-nil order) p
  pending-more {table} {words} {a} {depth = depth} {order = order} p same (more {next = next} {count = count} {many = many} {tree = tree} {trees = trees} e g d ds) =
      let first : get_or table depth 0 ≡ get_or words a 0 = rw (add-zero depth, add-zero a) at (same 0 (omega arith)) in
      let one : Pending f kept table (depth + 1) (order ++ post_order tree) = top {tree = tree} p refl (rw first d) refl in
      let size : depth + many ≡ depth + 1 + count = omega arith in
      rw (size, ← append_assoc order (post_order tree) (post_orders trees))
      (pending-more one
      (λ i l.
      let left : depth + 1 + i ≡ depth + (i + 1) = omega arith in
      let right : next + i ≡ a + (i + 1) = omega arith in
      rw (left, right) (same (i + 1) (omega arith)))
      ds)

  -- words are put on those that are pending
  pub pending-pushed : {table words : List ℕ} {depth : ℕ} {order : List ℕ} {trees : Forest} → Pending f kept table depth order → depth ≤ length table
      → DenotesAll f kept words 0 (length words) trees → Pending f kept (written words depth table) (depth + length words) (order ++ post_orders trees)
  pending-pushed {table} {words} {depth} p l ds =
      pending-more (pending-kept (λ i h. written-before words depth table i 0 h l) p)
      (λ i h. rw zero-add (written_at words depth table i l h))
      ds

-- what is on top, and what is pending below it
pub record Popped (f : List ℕ) (kept : Applications) (entries table : List ℕ) (left : ℕ) (order : List ℕ) : Type 0 where
  pub front : List ℕ
  pub rest : Pending f kept table left front
  pub root : ℕ
  pub trees : Forest
  pub located : Located f root (offset_of entries (get_or table left 0))
  pub denoted : DenotesAll f kept (words_below f entries (get_or table left 0)) 0 (length (words_below f entries (get_or table left 0))) trees
  pub is : order ≡ (front ++ post_orders trees) ++ (root ∷ [])

module _ {f entries : List ℕ} (good : GoodFile f) {kept : Applications} {n : ℕ} (r : Recorded f entries kept n) where
  pub popped : {table : List ℕ} {depth left : ℕ} {order : List ℕ} → Pending f kept table depth order → depth ≡ left + 1
      → Popped f kept entries table left order
  popped (none e) is = absurd (omega arith)
  popped {table} {left = left} {order = whole} (top {left = k} {order = front} rest e d g) is =
      let o = word-opened good r d in
      let made : Popped f kept entries table k whole =
      record {
        front = front;
        rest = rest;
        root = o.root;
        trees = o.trees;
        located = o.located;
        denoted = o.denoted;
        is = g ∙ ap (λ (s : List ℕ). front ++ s) o.order ∙ sym (append_assoc front (post_orders o.trees) (o.root ∷ []));
      } in
      let same : k ≡ left = omega arith in
      rw same at made

  -- there are at most half as many as bytes are to be written
  pub pending-few : {table : List ℕ} {depth : ℕ} {order : List ℕ} → Pending f kept table depth order → 2 * depth ≤ length (following (database f) order)
  pending-few (none e) = omega arith
  pending-few {order = whole} (top {order = front} rest e d g) =
      let o = word-opened good r d in
      let db = database f in
      let few = pending-few rest in
      let all : following db whole ≡ following db front ++ (following db (post_orders o.trees) ++ (32 ∷ label_of db o.root)) =
      ap (following db) (g ∙ ap (λ (s : List ℕ). front ++ s) o.order) ∙ following-append db front _
      ∙ ap (λ (s : List ℕ). following db front ++ s) (following-last db (post_orders o.trees) o.root) in
      let size = simp length-append at (ap length all) in
      let some : 1 ≤ length (label_of db o.root) = label_some db (good-facts f good) o.root (record { there = o.located.there }) in
      omega arith
