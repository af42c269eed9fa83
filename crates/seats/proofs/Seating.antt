-- The seats filled one after another: what is left of the definition's arrangement, put into the seats that are left, is the whole (`Filling`). A seat gets
-- the entry with its mark, or the next one without a mark; there is one, since no hypothesis goes without (`arranged-all`).
use Prim.Native.Nat.{ℕ, ◌+◌, ◌-◌, ◌≤◌, ◌<◌}
use mathlib.Core.Path.{◌≡◌, refl, sym, ap, ◌∙◌}
use mathlib.Core.Option.{none, some}
use mathlib.Core.List.{List, [], ◌∷◌}
use native.Mathlib.Omega.{arith}
use native.Mathlib.Decide.{ℕ_discrete}
use lib.ListN.{length, get_or, set, drop, drop_of_length-le}
use lib.Seq.{get_or-set_same, get_or-set_other}
use Rattle.frames.proofs.Loops.{Here}
use Rattle.machine.specs.Memory.{Entry}
use Rattle.machine.specs.Apply.{unmarked_first, unmarked, arranged}
use Rattle.memory.specs.Table.{word}
use Rattle.memory.specs.Shown.{Along, ends, next}
use Rattle.seats.specs.declared.arrange.Taken.{Taken}
use Rattle.seats.specs.Marks.{marked_nowhere, marked_at, all_marked, unmarked_at, Takes, by_mark, in_order, none_left, TakesSeat}
use Rattle.seats.specs.Seats.{MarkShown, Nth, first, later, SeatShown, Fills, InOrder}
use Rattle.seats.proofs.Marking.{mark-none, mark-some, marked-found, marked-nowhere}
use Rattle.seats.proofs.Counting.{arranged-marked, arranged-next, arranged-out}

-- seats that have their own numbers
pub order-none : (seats : List ℕ) → InOrder 0 seats
order-none seats = record { is = λ j h. absurd (omega arith) }

pub order-more : {j : ℕ} {seats : List ℕ} → InOrder j seats → j < length seats → InOrder (j + 1) (set seats j j)
order-more {j} {seats} o h = record { is = λ k l. which k l (ℕ_discrete k j) }
  where
    which : (k : ℕ) → k < j + 1 → Dec (k ≡ j) → get_or (set seats j j) k 0 ≡ k
    which k l (yes e) = rw e (get_or-set_same seats j j 0 h)
    which k l (no n) = get_or-set_other seats j k j 0 n ∙ o.is k (omega arith)

pub order-done : {j count : ℕ} {seats : List ℕ} → InOrder j seats → count ≤ j → InOrder count seats
order-done o h = record { is = λ k l. o.is k (omega arith) }

-- the entries without a mark
pub unmarked-none : unmarked [] ≡ []
unfolding unmarked
unmarked-none = refl

pub unmarked-here : {e : Entry} (es : List Entry) → e.mark ≡ none → unmarked (e ∷ es) ≡ e.proved ∷ unmarked es
unfolding unmarked unmarked_first
unmarked-here es e = rw e refl

unmarked-later : (e : Entry) {m : List ℕ} (es : List Entry) → e.mark ≡ some m → unmarked (e ∷ es) ≡ unmarked es
unfolding unmarked unmarked_first
unmarked-later e es g = rw g refl

module _ {text stack : List ℕ} where
  pub shown-none : {k : ℕ} {e : Entry} → MarkShown text stack k e → word stack k 3 ≡ 0 → e.mark ≡ none
  shown-none shown e = sym shown.is ∙ mark-none text _ _ e

  shown-later : {k : ℕ} {e : Entry} (es : List Entry) → MarkShown text stack k e → (word stack k 3 ≡ 0 → ⊥) → unmarked (e ∷ es) ≡ unmarked es
  shown-later {e = e} es shown n = unmarked-later e es (sym shown.is ∙ mark-some text _ _ n)

-- row t is the first without a mark among the entries from row u on
record Freed (text stack : List ℕ) (u t : ℕ) (left : List Entry) : Type 0 where
  pub entry : Entry
  pub nth : Nth left (t - u) entry
  pub others : List Entry
  pub is : unmarked left ≡ entry.proved ∷ unmarked others
  pub shown : Along (MarkShown text stack) (t + 1) others
  pub end : t + 1 + length others ≡ u + length left
  pub nths : (i j : ℕ) (e : Entry) → j ≡ i + (t + 1 - u) → Nth others i e → Nth left j e

module _ {text stack : List ℕ} where
  freed : {u t : ℕ} {left : List Entry} → Along (MarkShown text stack) u left → u ≤ t → t < u + length left
      → ((r : ℕ) → u ≤ r → r < t → word stack r 3 ≡ 0 → ⊥) → word stack t 3 ≡ 0 → Freed text stack u t left
  freed ends low high passed found = absurd (omega arith)
  freed {u} {t} (next {n = n} {x = e} {xs = es} s shown more) low high passed found =
      which (ℕ_discrete u t) (λ l. freed more (omega arith) (omega arith) (λ r g h. passed r (omega arith) h) found)
    where
      which : Dec (u ≡ t) → (u < t → Freed text stack n t es) → Freed text stack u t (e ∷ es)
      which (yes q) others =
          record {
            entry = e;
            nth = first {i = t - u} (omega arith);
            others = es;
            is = unmarked-here es (shown-none shown (rw q found));
            shown = let g : n ≡ t + 1 = omega arith in rw g at more;
            end = omega arith;
            nths = λ i j e g x. later {i = i} {j = j} (omega arith) x;
          }
      which (no q) others =
          let l : u < t = omega arith in
          let f = others l in
          let z = f.end in
          record {
            entry = f.entry;
            nth = later {i = t - n} {j = t - u} (omega arith) f.nth;
            others = f.others;
            is = shown-later es shown (passed u (omega arith) l) ∙ f.is;
            shown = f.shown;
            end = omega arith;
            nths = λ i j e g x. later {i = i + (t + 1 - n)} {j = j} (omega arith) (f.nths i (i + (t + 1 - n)) e refl x);
          }

  -- none is without a mark
  none_free : {u : ℕ} {left : List Entry} → Along (MarkShown text stack) u left
      → ((r : ℕ) → u ≤ r → r < u + length left → word stack r 3 ≡ 0 → ⊥) → unmarked left ≡ []
  none_free ends passed = unmarked-none
  none_free {u} (next {xs = es} s shown more) passed =
      shown-later es shown (passed u (omega arith) (omega arith)) ∙ none_free more (λ r g h. passed r (omega arith) (omega arith))

-- what is shown of each entry, for the i-th one
pub nth-shown : {P : ℕ → Entry → Type 0} {k i : ℕ} {es : List Entry} {e : Entry} → Along P k es → Nth es i e → P (k + i) e
nth-shown ends nth = elim nth [ ]
nth-shown {k = k} (next s p more) (first {i} z) = let g : k + i ≡ k = omega arith in rw g p
nth-shown {k = k} (next {n = n} s p more) (later {i} {j} g nth) = let q : k + j ≡ n + i = omega arith in rw q (nth-shown more nth)

-- a seat with the number of an entry
pub seat-shown : {es : List Entry} (seats : List ℕ) (j : ℕ) {i : ℕ} (entry : Entry) → get_or seats j 0 ≡ i → Nth es i entry
    → SeatShown es seats j entry.proved
seat-shown seats j entry e nth = record { entry = entry; nth = rw e nth; is = refl }

-- how far the seats are filled: from seat j on with the entries without a mark from row u on
pub record Filling (labels : List (List ℕ)) (text stack : List ℕ) (base j u : ℕ) (es : List Entry) (seats : List ℕ) : Type 0 where
  pub left : List Entry
  pub shown : Along (MarkShown text stack) u left
  pub end : u + length left ≡ base + length es
  pub nths : (i k : ℕ) (e : Entry) → k ≡ i + (u - base) → Nth left i e → Nth es k e
  pub sized : length (arranged (drop j labels) es (unmarked left)) + j ≡ length labels
  pub suffices : (seats' : List ℕ) → ((k : ℕ) → k < j → get_or seats' k 0 ≡ get_or seats k 0)
      → Along (SeatShown es seats') j (arranged (drop j labels) es (unmarked left)) → Along (SeatShown es seats') 0 (arranged labels es (unmarked es))

module _ {labels : List (List ℕ)} {text stack : List ℕ} {base : ℕ} {es : List Entry} (all : Along (MarkShown text stack) base es) where
  pub filling-none : (seats : List ℕ) → length (arranged labels es (unmarked es)) ≡ length labels → Filling labels text stack base 0 base es seats
  filling-none seats size =
      record {
        left = es;
        shown = all;
        end = refl;
        nths = λ i k e h x. let g : k ≡ i = omega arith in rw g x;
        sized = omega arith;
        suffices = λ seats' same x. x;
      }

  module _ {j u : ℕ} {seats : List ℕ} (f : Filling labels text stack base j u es seats) (room : j < length seats) where
    -- a seat gets entry i, and `left` are left for the others
    filling-seat : (i u' : ℕ) (entry : Entry) (left : List Entry) → Nth es i entry
        → arranged (drop j labels) es (unmarked f.left) ≡ entry.proved ∷ arranged (drop (j + 1) labels) es (unmarked left)
        → Along (MarkShown text stack) u' left → u' + length left ≡ base + length es
        → ((i k : ℕ) (e : Entry) → k ≡ i + (u' - base) → Nth left i e → Nth es k e) → Filling labels text stack base (j + 1) u' es (set seats j i)
    filling-seat i u' entry left nth is shown end nths =
        record {
          left = left;
          shown = shown;
          end = end;
          nths = nths;
          sized = let z = f.sized in let n = ap length is in omega arith;
          suffices = λ seats' same x.
              f.suffices seats' (λ k h. same k (omega arith) ∙ get_or-set_other seats j k i 0 (λ e. omega arith))
              (rw is (next refl (seat-shown seats' j entry (same j (omega arith) ∙ get_or-set_same seats j i 0 room) nth) x));
        }

    -- one more seat
    pub filling-more : {label : List ℕ} {to : ℕ} {t : Taken} → base ≤ u → to ≡ base + length es → Here labels j label → j < length labels
        → Takes text stack base to u label t → base ≤ t.row → t.row < to → Filling labels text stack base (j + 1) t.next es (set seats j (t.row - base))
    filling-more {label} {to} {t} low size here inside (by_mark (marked_at start before passed is) e) at_least_lem at_most =
        let found = marked-found label all at_least_lem (omega arith) passed is in
        rw e
        (filling-seat (t.row - base) u found.entry f.left found.nth
        (rw here.is (arranged-marked label _ es _ found.is)) f.shown f.end f.nths)
    filling-more {label} {to} {t} low size here inside (in_order (marked_nowhere nowhere) (unmarked_at begin before passed is) e) at_least_lem at_most =
        let absent = marked-nowhere label all (λ r a b. nowhere r a (omega arith)) in
        let z = f.end in
        let free = freed f.shown begin (omega arith) passed is in
        let y = free.end in
        rw e
        (filling-seat (t.row - base) (t.row + 1) free.entry free.others (f.nths (t.row - u) (t.row - base) _ (omega arith) free.nth)
        (rw (here.is, free.is) (arranged-next label _ es _ _ absent)) free.shown (omega arith)
        (λ i k x q n. f.nths (i + (t.row + 1 - u)) k x (omega arith) (free.nths i _ x refl n)))
    filling-more {label} {to} {t} low size here inside (none_left (marked_nowhere nowhere) (all_marked passed)) at_least_lem at_most =
        let absent = marked-nowhere label all (λ r a b. nowhere r a (omega arith)) in
        let z = f.end in
        let out = none_free f.shown (λ r a b. passed r a (omega arith)) in
        let gone : arranged (drop j labels) es (unmarked f.left) ≡ [] = rw (here.is, out) (arranged-out label _ es absent) in
        let n = ap length gone in
        let s = f.sized in
        absurd (omega arith)

  -- all are filled
  pub filling-done : {j u : ℕ} {seats : List ℕ} → Filling labels text stack base j u es seats → length labels ≤ j
      → Along (SeatShown es seats) 0 (arranged labels es (unmarked es))
  unfolding arranged
  filling-done {seats = seats} f h = f.suffices seats (λ k l. refl) (rw (drop_of_length-le labels h) ends)

-- the seats so far are filled, whatever the entries prove
pub record FillingAll (labels : List (List ℕ)) (text stack : List ℕ) (base count j u : ℕ) (seats : List ℕ) : Type 0 where
  pub low : base ≤ u
  pub high : u ≤ base + count
  pub fills : (es : List Entry) → Along (MarkShown text stack) base es → length es ≡ count → length labels ≡ count
      → length (arranged labels es (unmarked es)) ≡ count → Filling labels text stack base j u es seats

module _ {labels : List (List ℕ)} {text stack : List ℕ} {base count : ℕ} where
  pub fill_none : (seats : List ℕ) → FillingAll labels text stack base count 0 base seats
  fill_none seats =
      record { low = omega arith; high = omega arith; fills = λ es all size listed enough. filling-none all seats (enough ∙ sym listed) }

  pub fill_more : {j u : ℕ} {seats label : List ℕ} {t : Taken} (k i : ℕ) → FillingAll labels text stack base count j u seats → j < count → j < length seats
      → (j < length labels → Here labels j label) → TakesSeat text stack base (base + count) u label t → k ≡ j → i ≡ t.row - base
      → FillingAll labels text stack base count (j + 1) t.next (set seats k i)
  fill_more k i f h room here takes this that =
      record {
        low = takes.next_low;
        high = takes.next_high;
        fills = λ es all size listed enough.
            rw (this, that) (filling-more all (f.fills es all size listed enough) room f.low (ap (λ (n : ℕ). base + n) (sym size)) (here (omega arith)) (omega arith)
            takes.takes takes.low takes.high);
      }

  pub fill_done : {j u : ℕ} {seats : List ℕ} → FillingAll labels text stack base count j u seats → count ≤ j → Fills labels text stack base count seats
  fill_done f h =
      record { fills = λ es all size listed enough. filling-done all (f.fills es all size listed enough) (omega arith) }
