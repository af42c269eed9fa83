-- The outcome: no mark at all, a refusal, or the seats filled, each as the definition says; and the labels that the code reads are those of the hypotheses
-- in the decoded database.
use Rattle.std.proofs.Common.{Ok, Err}
use Prim.Native.Nat.{ℕ, ◌+◌, ◌≤◌, ◌<◌}
use mathlib.Core.Path.{◌≡◌, refl, sym, ap, ap₂, ◌∙◌}
use mathlib.Core.Option.{none}
use mathlib.Core.List.Memᴰ
use mathlib.Core.List.{List, [], ◌∷◌, map}
use native.Mathlib.Omega.{arith}
use lib.ListN.{length, length-map}
use Rattle.frames.specs.Database.{Statement, database, statement_at}
use Rattle.frames.specs.Facts.{◌∈◌, statement_of}
use Rattle.facts.proofs.Decoded.{database-statements, database-statement}
use Rattle.facts.proofs.GoodFacts.{good-facts}
use Rattle.machine.specs.declared.Refusal.{Refusal}
use Rattle.machine.specs.declared.Refusal.TheVariants.{ProofUnderflow}
use Rattle.machine.specs.Chain.{Result, stop}
use Rattle.machine.specs.Memory.{Entry, Memory}
use Rattle.machine.specs.Apply.{label_of, with_mark, marks, check_marks, marked, unmarked, arranged}
use Rattle.packed.specs.Lists.{Located}
use Rattle.resolve.specs.Filed.{Filed}
use Rattle.memory.specs.Table.{word}
use Rattle.memory.specs.Shown.{Along, ends, next}
use Rattle.machine.specs.Passed.{Passed}
use Rattle.seats.specs.Marks.{label_at, labels_at}
use Rattle.seats.specs.Seats.{MarkShown, Nth, first, later, SeatShown, judged, ChecksMarks, Fills, InOrder, Seating, Seats}
use Rattle.seats.proofs.Marking.{mark-none, marked-none, marked-nowhere}
use Rattle.seats.proofs.Counting.{over, passes, arranged-next, arranged-all}
use Rattle.seats.proofs.Seating.{unmarked-here, shown-none, seat-shown}

-- the labels of the hypotheses of an assertion
read_at : (f : List ℕ) (st : Statement) (o : ℕ) → st ≡ statement_at f o → st.at ≡ o
unfolding statement_at
read_at f st o e = ap (λ (x : Statement). x.at) e

located-statement : {f : List ℕ} {h at : ℕ} → Located f h at → statement_of (database f) h ≡ statement_at f at
located-statement {f} {h} {at} loc =
    let count = database-statements f in
    let read = database-statement f h (let t = loc.there in omega arith) in
    read ∙ ap (statement_at f) (sym (loc.offset ∙ read_at f _ _ read))

map_same : {A : Type 0} (g h : ℕ → A) (xs : List ℕ) → ((x : ℕ) → x ∈ xs → g x ≡ h x) → map g xs ≡ map h xs
map_same g h [] e = refl
map_same g h (x ∷ xs) e = ap₂ ◌∷◌ (e x (Memᴰ.head refl)) (map_same g h xs (λ y m. e y (Memᴰ.tail m)))

label-filed : {f syms stmts : List ℕ} (h : ℕ) → Filed f syms stmts → h < length (database f).statements → label_at f stmts h ≡ label_of (database f) h
unfolding label_at label_of
label-filed {f} h filed inside =
    let count = database-statements f in
    let read = database-statement f h (omega arith) in
    rw filed.statements (ap (λ (st : Statement). st.label) (sym read))

labels-filed : {f syms stmts : List ℕ} {a at : ℕ} → Filed f syms stmts → Located f a at
    → labels_at f stmts at ≡ map (label_of (database f)) (statement_of (database f) a).hyps
unfolding labels_at
labels-filed {f} {stmts = stmts} {a} {at} filed loc =
    ap (λ (st : Statement). map (label_at f stmts) st.hyps) (sym (located-statement loc))
    ∙ map_same (label_at f stmts) (label_of (database f)) (statement_of (database f) a).hyps
    (λ h m.
    let e = (((good-facts f filed.good).statement a loc.there).hyps_active h m).earlier in
    label-filed h filed (let t = loc.there in omega arith))

-- what is said of the labels that are read is said of the assertion
pub seats-read : {f stmts : List ℕ} {at : ℕ} {text stack : List ℕ} {base count : ℕ} {seats : List ℕ} {answer : Passed}
    → ((es : List Entry) → length (labels_at f stmts at) ≡ count → length es ≡ count → Along (MarkShown text stack) base es
    → Seating (labels_at f stmts at) es count seats answer)
    → Seats f stmts at text stack base count seats answer
seats-read {f} {stmts} {at} read =
    record {
      follows = λ syms a es filed loc count size all.
          let same = labels-filed filed loc in
          let n = length-map (statement_of (database f) a).hyps (label_of (database f)) in
          rw same at (read es (ap length same ∙ (n ∙ sym count)) size all);
    }

module _ {f stmts : List ℕ} {at : ℕ} {text stack : List ℕ} {base count : ℕ} {seats : List ℕ} where
  -- the marks are refused
  pub seats-refused : {why : Refusal} {answer : Passed} → answer ≡ Err why → ChecksMarks (labels_at f stmts at) text stack base (base + count) answer
      → Seats f stmts at text stack base count seats (Err why)
  seats-refused {why} e c =
      seats-read
      (λ es listed size all.
      record {
        checks = λ rest. rw e at (c.checks es all (omega arith) rest);
        sized = λ g. let z : ◌≡◌ {A = ℕ} 0 1 = cc in absurd (omega arith);
        holds = λ g. let z : ◌≡◌ {A = ℕ} 0 1 = cc in absurd (omega arith);
      })

  -- they pass, and the seats are filled
  pub seats-filled : {answer : Passed} → answer ≡ (Ok tt) → ChecksMarks (labels_at f stmts at) text stack base (base + count) answer
      → Fills (labels_at f stmts at) text stack base count seats → Seats f stmts at text stack base count seats (Ok tt)
  unfolding judged
  seats-filled e c fill =
      seats-read
      (λ es listed size all.
      let passed = c.checks es all (omega arith) in
      let enough = arranged-all es (passes (labels_at f stmts at) [] (marks es) (rw e at (passed (stop ProofUnderflow)))) (size ∙ sym listed) ∙ listed in
      record {
        checks = λ rest. rw e at (passed rest);
        sized = λ g. enough;
        holds = λ g. fill.fills es all size listed enough;
      })

-- no entry has a mark
module _ {text stack : List ℕ} where
  no-marks : {u : ℕ} {es : List Entry} → Along (MarkShown text stack) u es → ((r : ℕ) → u ≤ r → r < u + length es → word stack r 3 ≡ 0) → marks es ≡ []
  unfolding marks with_mark
  no-marks ends bare = refl
  no-marks {u} (next s shown more) bare =
      rw (shown-none shown (bare u (omega arith) (omega arith))) (no-marks more (λ r g h. bare r (omega arith) (omega arith)))

  module _ {es : List Entry} {seats : List ℕ} {count : ℕ} (order : InOrder count seats)
      (absent : (l : List ℕ) → marked l es ≡ none) where
    -- from entry j on
    in-turn : {u : ℕ} {left : List Entry} (j : ℕ) (ls : List (List ℕ)) → Along (MarkShown text stack) u left
        → ((r : ℕ) → u ≤ r → r < u + length left → word stack r 3 ≡ 0) → length ls ≡ length left → j + length left ≤ count
        → ((i k : ℕ) (e : Entry) → k ≡ i + j → Nth left i e → Nth es k e) → Along (SeatShown es seats) j (arranged ls es (unmarked left))
    unfolding arranged
    in-turn j [] ends bare size fits nths = ends
    in-turn j (l ∷ ls) ends bare size fits nths = absurd (omega arith)
    in-turn j [] (next s shown more) bare size fits nths = absurd (omega arith)
    in-turn {u} j (l ∷ ls) (next {x = e} {xs = left} s shown more) bare size fits nths =
        rw (unmarked-here {e = e} left (shown-none shown (bare u (omega arith) (omega arith))), arranged-next l ls es e.proved (unmarked left) (absent l))
        (next refl (seat-shown seats j e (order.is j (omega arith)) (nths 0 j e (omega arith) (first refl)))
        (in-turn (j + 1) ls more (λ r g h. bare r (omega arith) (omega arith)) (omega arith) (omega arith)
        (λ i k x g n. nths (i + 1) k x (omega arith) (later refl n))))

check-none : (labels ms : List (List ℕ)) → ms ≡ [] → (rest : Result Memory) → check_marks labels [] ms rest ≡ rest
unfolding check_marks
check-none labels ms e rest = rw e refl

-- then the entries go to the hypotheses in order
pub seats-in-order : {f stmts : List ℕ} {at : ℕ} {text stack : List ℕ} {base count : ℕ} {seats : List ℕ}
    → ((r : ℕ) → base ≤ r → r < base + count → word stack r 3 ≡ 0) → InOrder count seats → Seats f stmts at text stack base count seats (Ok tt)
unfolding judged
seats-in-order {f} {stmts} {at} {text} {stack} bare order =
    seats-read
    (λ es listed size all.
    let bare-all = no-marks all (λ r g h. bare r g (omega arith)) in
    let absent : (l : List ℕ) → marked l es ≡ none = λ l. marked-nowhere l all (λ r g h. marked-none l (mark-none text _ _ (bare r g (omega arith)))) in
    record {
      checks = check-none (labels_at f stmts at) (marks es) bare-all;
      sized = λ g. arranged-all es (rw bare-all over) (size ∙ sym listed) ∙ listed;
      holds = λ g.
          in-turn order absent 0 (labels_at f stmts at) all (λ r g h. bare r g (omega arith)) (listed ∙ sym size) (omega arith)
          (λ i k e q n. let z : k ≡ i = omega arith in rw z n);
    })
