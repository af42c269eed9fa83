-- Which entry of the stack goes to which hypothesis of an assertion, said of the definition of a run: its refusal, or its entries in the order of
-- the hypotheses.
use Rattle.std.specs.Prelude.{ℕ, ◌+◌, ◌<◌, ◌≡◌, List, [], ◌∷◌, map, length, get_or, Ok, Err}
use Rattle.frames.specs.Database.{database}
use Rattle.frames.specs.Facts.{statement_of}
use Rattle.machine.specs.Chain.{Result, stop}
use Rattle.machine.specs.Memory.{Proved, Entry, Memory}
use Rattle.machine.specs.Apply.{label_of, marks, check_marks, unmarked, arranged}
use Rattle.packed.specs.Lists.{Located}
use Rattle.resolve.specs.Filed.{Filed}
use Rattle.memory.specs.Shown.{Along}
use Rattle.machine.specs.Passed.{Passed}
use Rattle.seats.specs.Marks.{row_mark}

-- row k of the stack has this entry's mark
pub record MarkShown (text stack : List ℕ) (k : ℕ) (e : Entry) : Type 0 where
  pub is : row_mark text stack k ≡ e.mark

-- x is the i-th member, counted from 0
pub data Nth {A : Type 0} : List A → ℕ → A → Type 0 where
  first : {i : ℕ} {x : A} {xs : List A} → i ≡ 0 → Nth (x ∷ xs) i x
  later : {i j : ℕ} {x y : A} {xs : List A} → j ≡ i + 1 → Nth xs i y → Nth (x ∷ xs) j y

-- seat j has the number of an entry, which proves x
pub record SeatShown (es : List Entry) (seats : List ℕ) (j : ℕ) (x : Proved) : Type 0 where
  pub entry : Entry
  pub nth : Nth es (get_or seats j 0) entry
  pub is : x ≡ entry.proved

-- the definition's result, where `rest` is what follows when nothing is refused
unfoldable pub judged : Passed → Result Memory → Result Memory
judged (Ok tt) rest = rest
judged (Err why) rest = stop why

-- the marks from row `base` up to row `to` are judged as the definition judges them
pub record ChecksMarks (labels : List (List ℕ)) (text stack : List ℕ) (base to : ℕ) (answer : Passed) : Type 0 where
  pub checks : (es : List Entry) → Along (MarkShown text stack) base es → base + length es ≡ to → (rest : Result Memory)
      → check_marks labels [] (marks es) rest ≡ judged answer rest

-- the seats hold the entries in the order of the hypotheses, where there are enough of them
pub record Fills (labels : List (List ℕ)) (text stack : List ℕ) (base count : ℕ) (seats : List ℕ) : Type 0 where
  pub fills : (es : List Entry) → Along (MarkShown text stack) base es → length es ≡ count → length labels ≡ count
      → length (arranged labels es (unmarked es)) ≡ count → Along (SeatShown es seats) 0 (arranged labels es (unmarked es))

-- seat j has the number j
pub record InOrder (count : ℕ) (seats : List ℕ) : Type 0 where
  pub is : (j : ℕ) → j < count → get_or seats j 0 ≡ j

-- the entries are judged as the definition judges them; where nothing is refused, there is one for each of the `count` hypotheses, and the seats hold them
-- in that order
pub record Seating (labels : List (List ℕ)) (es : List Entry) (count : ℕ) (seats : List ℕ) (answer : Passed) : Type 0 where
  pub checks : (rest : Result Memory) → check_marks labels [] (marks es) rest ≡ judged answer rest
  pub sized : answer ≡ (Ok tt) → length (arranged labels es (unmarked es)) ≡ count
  pub holds : answer ≡ (Ok tt) → Along (SeatShown es seats) 0 (arranged labels es (unmarked es))

-- the same for the `count` entries from row `base` on and the hypotheses of the assertion at `at`
pub record Seats (f stmts : List ℕ) (at : ℕ) (text stack : List ℕ) (base count : ℕ) (seats : List ℕ) (answer : Passed) : Type 0 where
  pub follows : (syms : List ℕ) (a : ℕ) (es : List Entry) → Filed f syms stmts → Located f a at
      → count ≡ length (statement_of (database f) a).hyps → length es ≡ count → Along (MarkShown text stack) base es
      → Seating (map (label_of (database f)) (statement_of (database f) a).hyps) es count seats answer
