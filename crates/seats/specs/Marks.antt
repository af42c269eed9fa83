-- The marks of the entries on the stack, read where they lie, and what the searches among them find. Rows are numbered from the bottom of the stack.
use Rattle.std.specs.Prelude.{ℕ, ◌+◌, ◌≤◌, ◌<◌, ◌≡◌, Bool, true, false, List, map, get_or, Some, None, Ok, Err}
use Rattle.std.specs.Prelude as std
use Rattle.std.proofs.Math.Option.{Option, none, some}
use Rattle.frames.specs.Database.{statement_at}
use Rattle.machine.specs.declared.Refusal.TheVariants.{BadExplicitLabel, DuplicateExplicitLabel}
use Rattle.machine.specs.Apply.{names, is_marked}
use Rattle.memory.specs.Table.{word}
use Rattle.memory.specs.Shown.{mark_of}
use Rattle.machine.specs.Passed.{Passed}
use Rattle.seats.specs.declared.arrange.Taken.{Taken}

-- the mark of row k
abbrev pub row_mark : List ℕ → List ℕ → ℕ → Option (List ℕ)
row_mark text stack k = mark_of text (word stack k 3) (word stack k 4)

-- the label of statement h, and the labels of the hypotheses of the statement at `at`
unfoldable pub label_at : List ℕ → List ℕ → ℕ → List ℕ
label_at f stmts h = (statement_at f (get_or stmts h 0)).label

unfoldable pub labels_at : List ℕ → List ℕ → ℕ → List (List ℕ)
labels_at f stmts at = map (label_at f stmts) (statement_at f at).hyps

-- the first row from `from` on that has this mark; none where none before `to` has
pub data FirstMarked (text stack label : List ℕ) (from to : ℕ) : std.Option ℕ → Type 0 where
  marked_nowhere : ((r : ℕ) → from ≤ r → r < to → is_marked label (row_mark text stack r) ≡ false) → FirstMarked text stack label from to None
  marked_at : {k : ℕ} → from ≤ k → k < to → ((r : ℕ) → from ≤ r → r < k → is_marked label (row_mark text stack r) ≡ false)
      → is_marked label (row_mark text stack k) ≡ true → FirstMarked text stack label from to (Some k)

-- the first row from `from` on without a mark; none where all before `to` have one
pub data FirstUnmarked (stack : List ℕ) (from to : ℕ) : std.Option ℕ → Type 0 where
  all_marked : ((r : ℕ) → from ≤ r → r < to → word stack r 3 ≡ 0 → ⊥) → FirstUnmarked stack from to None
  unmarked_at : {k : ℕ} → from ≤ k → k < to → ((r : ℕ) → from ≤ r → r < k → word stack r 3 ≡ 0 → ⊥) → word stack k 3 ≡ 0
      → FirstUnmarked stack from to (Some k)

-- where the answer is yes, no row from `from` up to `to` has a mark
pub record NoneMarked (stack : List ℕ) (from to : ℕ) (answer : Bool) : Type 0 where
  pub none : answer ≡ true → (r : ℕ) → from ≤ r → r < to → word stack r 3 ≡ 0

-- the mark of row k passes, or is refused: it is to name one of the hypotheses, and no row from `base` up to k is to have it
pub data Checks (labels : List (List ℕ)) (text stack : List ℕ) (base k : ℕ) : Passed → Type 0 where
  bare : row_mark text stack k ≡ none → Checks labels text stack base k (Ok tt)
  once : {m : List ℕ} → row_mark text stack k ≡ some m → names labels m ≡ true
      → ((r : ℕ) → base ≤ r → r < k → is_marked m (row_mark text stack r) ≡ false) → Checks labels text stack base k (Ok tt)
  unknown : {m : List ℕ} → row_mark text stack k ≡ some m → names labels m ≡ false → Checks labels text stack base k (Err BadExplicitLabel)
  twice : {m : List ℕ} {r : ℕ} → row_mark text stack k ≡ some m → names labels m ≡ true → base ≤ r → r < k
      → is_marked m (row_mark text stack r) ≡ true → Checks labels text stack base k (Err DuplicateExplicitLabel)

-- which row takes the seat of the hypothesis with this label: the one marked so, else the first without a mark from `next` on (there is one, since
-- entries and hypotheses are as many), and from which row on the next one is sought
pub data Takes (text stack : List ℕ) (base to next : ℕ) (label : List ℕ) (t : Taken) : Type 0 where
  by_mark : FirstMarked text stack label base to (Some t.row) → t.next ≡ next → Takes text stack base to next label t
  in_order : FirstMarked text stack label base to None → FirstUnmarked stack next to (Some t.row) → t.next ≡ t.row + 1
      → Takes text stack base to next label t
  none_left : FirstMarked text stack label base to None → FirstUnmarked stack next to None → Takes text stack base to next label t

-- the same, and both rows are within
pub record TakesSeat (text stack : List ℕ) (base to next : ℕ) (label : List ℕ) (t : Taken) : Type 0 where
  pub low : base ≤ t.row
  pub high : t.row < to
  pub next_low : base ≤ t.next
  pub next_high : t.next ≤ to
  pub takes : Takes text stack base to next label t
