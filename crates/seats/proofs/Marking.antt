-- Marks and labels as the code reads them, and what the searches among the rows find in the list of entries.
use Rattle.std.specs.Prelude as std
use Rattle.std.proofs.Common.{Some, None, Ok, Err, MatchOption, MatchBool}
use Rattle.std.specs.List.{AllWithin, HoldsAt, range_with_len}
use Rattle.std.proofs.lemmas.List.FromFn.{get_or-range_with_len, length-range_with_len}
use Prim.Native.Nat.{ℕ, zero, suc, ◌+◌, ◌-◌, ◌≤◌, ◌<◌}
use mathlib.Core.Path.{◌≡◌, refl, sym, ap, ◌∙◌}
use mathlib.Core.Bool.{Bool, true, false}
use mathlib.Core.Option.{Option, none, some}
use mathlib.Core.List.{List, [], ◌∷◌, map}
use native.Mathlib.Omega.{arith}
use native.Mathlib.Decide.{ℕ_discrete}
use lib.ListN.{length, get_or, take, drop, length-map}
use Rattle.frames.specs.Logic.{same, either, any}
use Rattle.frames.specs.Database.{statement_at}
use Rattle.frames.proofs.Chains.{pick_first, pick_second}
use Rattle.frames.proofs.Loops.{Here, here-list, here-get_or}
use Rattle.machine.specs.Memory.{Entry}
use Rattle.machine.specs.Apply.{names, is_marked, marked}
use Rattle.packed.specs.Pool.{range}
use Rattle.memory.specs.Table.{word}
use Rattle.memory.specs.Shown.{Along, ends, next, mark_of}
use Rattle.machine.specs.declared.Refusal.TheVariants.{DuplicateExplicitLabel}
use Rattle.seats.specs.Marks.{row_mark, label_at, labels_at, FirstMarked, marked_nowhere, marked_at, FirstUnmarked, all_marked, unmarked_at, NoneMarked, Checks, once, twice, by_mark, in_order, none_left, TakesSeat}
use Rattle.seats.specs.Seats.{MarkShown, Nth, first, later}

-- a row with the tag 0 has no mark, any other has a part of the text
pub mark-none : (text : List ℕ) (tag end : ℕ) → tag ≡ 0 → mark_of text tag end ≡ none
unfolding mark_of
mark-none text tag end e = rw e refl

pub mark-some : (text : List ℕ) (tag end : ℕ) → (tag ≡ 0 → ⊥) → mark_of text tag end ≡ some (range (tag - 1) end text)
unfolding mark_of
mark-some text zero end h = absurd (h refl)
mark-some text (suc n) end h = let e : suc n - 1 ≡ n = omega arith in rw e refl

pub mark-read : (text : List ℕ) {tag end tag' end' : ℕ} → tag ≡ tag' → end ≡ end' → (tag ≡ 0 → ⊥) → mark_of text tag' end' ≡ some (range (tag - 1) end text)
mark-read text e g h = rw (← e, ← g) (mark-some text _ _ h)

-- a part of the text
pub range-rises : (from end : ℕ) (text : List ℕ) → take (end - from) (drop from text) ≡ range from end text
unfolding range
range-rises from end text = refl

pub range-falls : (from end : ℕ) (text : List ℕ) → end ≤ from → take 0 (drop from text) ≡ range from end text
unfolding range
range-falls from end text h = let e : end - from ≡ 0 = omega arith in rw e refl

-- what a mark is asked
pub marked-none : (label : List ℕ) {m : Option (List ℕ)} → m ≡ none → is_marked label m ≡ false
unfolding is_marked
marked-none label e = rw e refl

pub marked-some : (label : List ℕ) {x : List ℕ} {m : Option (List ℕ)} → m ≡ some x → is_marked label m ≡ same x label
unfolding is_marked
marked-some label e = rw e refl

-- what holds of the rows from `from` up to k, and of k, holds of those up to k + 1
pub rows_more : {P : ℕ → Type 0} (from k : ℕ) → ((r : ℕ) → from ≤ r → r < k → P r) → P k → (r : ℕ) → from ≤ r → r < k + 1 → P r
rows_more {P} from k before here r low high = which (ℕ_discrete r k)
  where
    which : Dec (r ≡ k) → P r
    which (yes q) = rw q here
    which (no q) = before r low (omega arith)

-- the label of the i-th hypothesis
get_or_map : {A B : Type 0} (g : A → B) (xs : List A) (i : ℕ) (d : A) (e : B) → i < length xs → get_or (map g xs) i e ≡ g (get_or xs i d)
get_or_map g [] i d e h = absurd (omega arith)
get_or_map g (x ∷ xs) zero d e h = refl
get_or_map g (x ∷ xs) (suc i) d e h = get_or_map g xs i d e (omega arith)

module _ (f stmts : List ℕ) (at : ℕ) where
  pub labels_length : length (labels_at f stmts at) ≡ length (statement_at f at).hyps
  unfolding labels_at
  labels_length = length-map (statement_at f at).hyps (label_at f stmts)

  pub here_label : {o : ℕ} {label : List ℕ} (i : ℕ) → i < length (statement_at f at).hyps
      → o ≡ get_or stmts (get_or (statement_at f at).hyps i 0) 0 → label ≡ (statement_at f o).label → Here (labels_at f stmts at) i label
  unfolding labels_at label_at
  here_label i h e l =
      rw (l, e) (rw (get_or_map (label_at f stmts) (statement_at f at).hyps i 0 [] h) at
      (here-list (labels_at f stmts at) i [] (let n = labels_length in omega arith)))

-- the first row that has a mark is that of the entry that the definition finds
pub record Found (es : List Entry) (label : List ℕ) (i : ℕ) : Type 0 where
  pub entry : Entry
  pub nth : Nth es i entry
  pub is : marked label es ≡ some entry.proved

found_here : {label : List ℕ} {i : ℕ} {e : Entry} (es : List Entry) → i ≡ 0 → is_marked label e.mark ≡ true → Found (e ∷ es) label i
unfolding marked
found_here {e = e} es start here = record { entry = e; nth = first start; is = sym (pick_first _ here refl) }

found-later : {label : List ℕ} {i j : ℕ} {e : Entry} {es : List Entry} → j ≡ i + 1 → is_marked label e.mark ≡ false → Found es label i
    → Found (e ∷ es) label j
unfolding marked
found-later more passed f = record { entry = f.entry; nth = later more f.nth; is = sym (pick_second _ passed (sym f.is)) }

module _ {text stack : List ℕ} (label : List ℕ) where
  pub marked-found : {b k : ℕ} {es : List Entry} → Along (MarkShown text stack) b es → b ≤ k → k < b + length es
      → ((r : ℕ) → b ≤ r → r < k → is_marked label (row_mark text stack r) ≡ false) → is_marked label (row_mark text stack k) ≡ true
      → Found es label (k - b)
  marked-found ends low high passed found = absurd (omega arith)
  marked-found {b} {k} (next {n = n} {x = e} {xs = es} s shown more) low high passed found =
      which (ℕ_discrete b k) (λ l. marked-found more (omega arith) (omega arith) (λ r g h. passed r (omega arith) h) found)
    where
      which : Dec (b ≡ k) → (b < k → Found es label (k - n)) → Found (e ∷ es) label (k - b)
      which (yes q) others = found_here es (omega arith) (ap (is_marked label) (sym shown.is) ∙ rw q found)
      which (no q) others =
          let l : b < k = omega arith in
          found-later (omega arith) (ap (is_marked label) (sym shown.is) ∙ passed b (omega arith) l) (others l)

  pub marked-nowhere : {b : ℕ} {es : List Entry} → Along (MarkShown text stack) b es
      → ((r : ℕ) → b ≤ r → r < b + length es → is_marked label (row_mark text stack r) ≡ false) → marked label es ≡ none
  unfolding marked
  marked-nowhere ends passed = refl
  marked-nowhere {b} {es = e ∷ es} (next s shown more) passed =
      sym (pick_second _ (ap (is_marked label) (sym shown.is) ∙ passed b (omega arith) (omega arith))
      (sym (marked-nowhere more (λ r l h. passed r (omega arith) (omega arith)))))

-- what the library says of a search
pub first-marked : {text stack label : List ℕ} {from to : ℕ} {r : std.Option ℕ}
    → MatchOption r ((k : ℕ) → from ≤ k → k < to → is_marked label (row_mark text stack k) ≡ false)
    (λ i. (from ≤ i) × (i < to) × (is_marked label (row_mark text stack i) ≡ true) × ((k : ℕ) → from ≤ k → k < i → is_marked label (row_mark text stack k) ≡ false))
    → FirstMarked text stack label from to r
first-marked {r = None} f = marked_nowhere f
first-marked {r = Some i} f = marked_at f.0 f.1 f.3 f.2

pub first-unmarked : {stack : List ℕ} {from to : ℕ} {r : std.Option ℕ}
    → MatchOption r ((k : ℕ) → from ≤ k → k < to → word stack k 3 ≡ 0 → ⊥)
    (λ i. (from ≤ i) × (i < to) × (word stack i 3 ≡ 0) × ((k : ℕ) → from ≤ k → k < i → word stack k 3 ≡ 0 → ⊥))
    → FirstUnmarked stack from to r
first-unmarked {r = None} f = all_marked f
first-unmarked {r = Some i} f = unmarked_at f.0 f.1 f.3 f.2

-- what it says of a test of every row
at-row : (from to k d : ℕ) → k < to - from → get_or (range_with_len from (to - from)) k d ≡ from + k
at-row from to k d l = get_or-range_with_len from (to - from) k d l

pub none-told : (stack : List ℕ) (from to : ℕ) (r : Bool)
    → MatchBool r (AllWithin (λ k. word stack k 3 ≡ 0) (range_with_len from (to - from)) 0 (length (range_with_len from (to - from))))
    ((k : ℕ) × (k < length (range_with_len from (to - from))) × HoldsAt (λ k. Unit {0}) (range_with_len from (to - from)) k)
    → NoneMarked stack from to r
none-told stack from to true f =
    let size = length-range_with_len from (to - from) in
    record {
      none = λ e r low high.
          let k : r - from < to - from = omega arith in
          let same : get_or (range_with_len from (to - from)) (r - from) 0 ≡ r = omega (arith, at-row from to (r - from) 0 k) in
          rw same at (f (r - from) 0 (omega arith) (omega (arith, size)));
    }
none-told stack from to false f = record { none = λ e. let z : ◌≡◌ {A = ℕ} 0 1 = cc in absurd (omega arith) }

-- a member that passes, and none that does
either-right : (a : Bool) {b : Bool} → b ≡ true → either a b ≡ true
unfolding either
either-right true e = refl
either-right false e = e

any-at : {A : Type 0} (p : A → Bool) (xs : List A) (k : ℕ) (d : A) → k < length xs → p (get_or xs k d) ≡ true → any p xs ≡ true
unfolding any either
any-at p [] k d l e = absurd (omega arith)
any-at p (x ∷ xs) zero d l e = rw e refl
any-at p (x ∷ xs) (suc k) d l e = either-right (p x) (any-at p xs k d (omega arith) e)

any-nowhere : {A : Type 0} (p : A → Bool) (xs : List A) (d : A) → ((k : ℕ) → k < length xs → p (get_or xs k d) ≡ false) → any p xs ≡ false
unfolding any either
any-nowhere p [] d f = refl
any-nowhere p (x ∷ xs) d f = rw (f 0 (omega arith)) (any-nowhere p xs d (λ k l. f (suc k) (omega arith)))

module _ (f stmts : List ℕ) (at : ℕ) (mark : List ℕ) where
  -- whether the label of the i-th hypothesis is the mark
  named : ℕ → Bool
  named i = same mark (statement_at f (get_or stmts (get_or (statement_at f at).hyps i 0) 0)).label

  label_named : (i : ℕ) → i < length (labels_at f stmts at) → same mark (get_or (labels_at f stmts at) i []) ≡ named i
  unfolding named
  label_named i l =
      let here = here_label f stmts at i (let z = labels_length f stmts at in omega arith) refl refl in
      ap (same mark) (sym (here-get_or here []))

module _ (f stmts : List ℕ) (at : ℕ) (mark : List ℕ) (n : ℕ) (count : n ≡ length (statement_at f at).hyps) where
  size : length (range_with_len 0 (n - 0)) ≡ n
  size = omega (arith, length-range_with_len 0 (n - 0))

  long : length (labels_at f stmts at) ≡ n
  long = omega (arith, labels_length f stmts at, count)

  there : (k d : ℕ) → k < n → get_or (range_with_len 0 (n - 0)) k d ≡ k
  there k d l = omega (arith, at-row 0 n k d (omega arith))

  pub names-told : (r : Bool) → MatchBool r ((k : ℕ) × (k < length (range_with_len 0 (n - 0))) × HoldsAt (λ i. same mark (statement_at f (get_or stmts (get_or (statement_at f at).hyps i 0) 0)).label ≡ true) (range_with_len 0 (n - 0)) k)
      (AllWithin (λ i. same mark (statement_at f (get_or stmts (get_or (statement_at f at).hyps i 0) 0)).label ≡ false) (range_with_len 0 (n - 0)) 0 (length (range_with_len 0 (n - 0))))
      → r ≡ names (labels_at f stmts at) mark
  unfolding names named
  names-told r = by r
    where
      by : (t : Bool) → MatchBool t ((k : ℕ) × (k < length (range_with_len 0 (n - 0))) × HoldsAt (λ i. same mark (statement_at f (get_or stmts (get_or (statement_at f at).hyps i 0) 0)).label ≡ true) (range_with_len 0 (n - 0)) k)
          (AllWithin (λ i. same mark (statement_at f (get_or stmts (get_or (statement_at f at).hyps i 0) 0)).label ≡ false) (range_with_len 0 (n - 0)) 0 (length (range_with_len 0 (n - 0)))) → t ≡ any (same mark) (labels_at f stmts at)
      by true h =
          let k = h.0 in
          let few : k < n = omega (arith, size, h.1) in
          let here : same mark (get_or (labels_at f stmts at) k []) ≡ true = label_named f stmts at mark k (omega (arith, long)) ∙ (rw (there k 0 few) at (h.2 0)) in
          sym (any-at (same mark) (labels_at f stmts at) k [] (omega (arith, long)) here)
      by false h =
          sym (any-nowhere (same mark) (labels_at f stmts at) []
          (λ k l. let few : k < n = omega (arith, long) in
          label_named f stmts at mark k l ∙ (rw (there k 0 few) at (h k 0 (omega arith) (omega (arith, size))))))

-- a row that a search found is one of those that it went over
marked-within : {text stack label : List ℕ} {from to k : ℕ} → FirstMarked text stack label from to (Some k) → (from ≤ k) × (k < to)
marked-within (marked_at low high passed found) = (low, high)

unmarked-within : {stack : List ℕ} {from to k : ℕ} → FirstUnmarked stack from to (Some k) → (from ≤ k) × (k < to)
unmarked-within (unmarked_at low high passed found) = (low, high)

-- a mark that names a hypothesis, as the rows below have it or not
module _ {labels : List (List ℕ)} {text stack : List ℕ} {base k : ℕ} {m : List ℕ} (is : row_mark text stack k ≡ some m) (known : names labels m ≡ true) where
  pub checked-twice : {r : ℕ} → FirstMarked text stack m base k (Some r) → Checks labels text stack base k (Err DuplicateExplicitLabel)
  checked-twice (marked_at low high passed found) = twice is known low high found

  pub checked-once : FirstMarked text stack m base k None → Checks labels text stack base k (Ok tt)
  checked-once (marked_nowhere passed) = once is known passed

-- the three ways to take a seat
module _ {text stack label : List ℕ} {base to next : ℕ} (low : base ≤ next) (high : next ≤ to) where
  pub takes-marked : {row : ℕ} → FirstMarked text stack label base to (Some row) → TakesSeat text stack base to next label (record { row = row; next = next })
  takes-marked m = let w = marked-within m in record { low = w.0; high = w.1; next_low = low; next_high = high; takes = by_mark m refl }

  pub takes-next : {row : ℕ} → FirstMarked text stack label base to None → FirstUnmarked stack next to (Some row)
      → TakesSeat text stack base to next label (record { row = row; next = row + 1 })
  takes-next m g =
      let w = unmarked-within g in
      record { low = omega arith; high = w.1; next_low = omega arith; next_high = omega arith; takes = in_order m g refl }

  pub takes-none : base < to → FirstMarked text stack label base to None → FirstUnmarked stack next to None
      → TakesSeat text stack base to next label (record { row = base; next = to })
  takes-none room m g = record { low = omega arith; high = room; next_low = omega arith; next_high = omega arith; takes = none_left m g }
