-- The marks from the bottom up: after some rows, the definition's chain goes on with the entries that are left, and the marks it has seen are those
-- of the rows passed (`Judged`). Each row passes or is refused as the definition says.
use Rattle.std.proofs.Common.{Ok, Err}
use Prim.Native.Nat.{ℕ, ◌+◌, ◌≤◌, ◌<◌}
use mathlib.Core.Path.{◌≡◌, refl, sym, ap, ◌∙◌}
use mathlib.Core.Bool.{Bool, true, false}
use mathlib.Core.Option.{none, some}
use mathlib.Core.List.{List, [], ◌∷◌}
use native.Mathlib.Omega.{arith}
use lib.ListN.{length}
use Rattle.frames.specs.Logic.{same, either, any}
use Rattle.frames.proofs.Chains.{no-of-true, no-of-false, either_first, either_second}
use Rattle.frames.proofs.Tells.{true-not-false}
use Rattle.frames.proofs.Found.{same_true, same_self}
use Rattle.machine.specs.declared.Refusal.{Refusal}
use Rattle.machine.specs.declared.Refusal.TheVariants.{BadExplicitLabel, DuplicateExplicitLabel}
use Rattle.machine.specs.Chain.{Result, stop, unless}
use Rattle.machine.specs.Memory.{Entry, Memory}
use Rattle.machine.specs.Apply.{names, is_marked, with_mark, marks, check_marks}
use Rattle.memory.specs.Shown.{Along, ends, next}
use Rattle.machine.specs.Passed.{Passed}
use Rattle.seats.specs.Marks.{row_mark, Checks, bare, once, unknown, twice}
use Rattle.seats.specs.Seats.{MarkShown, judged, ChecksMarks}
use Rattle.seats.proofs.Marking.{rows_more, marked-none, marked-some}

chain-stop : {A : Type 0} {t : Bool} {why : Refusal} (rest : Result A) → t ≡ true → unless t why rest ≡ stop why
unfolding unless
chain-stop rest e = rw e refl

chain-skip : {A : Type 0} {t : Bool} (why : Refusal) (rest : Result A) → t ≡ false → unless t why rest ≡ rest
unfolding unless
chain-skip why rest e = rw e refl

-- two texts are the same either way round
pub same-turned : (xs ys : List ℕ) → same xs ys ≡ true → same ys xs ≡ true
same-turned xs ys e = rw (same_true xs ys e) (same_self ys)

pub differ-turned : (xs ys : List ℕ) → same xs ys ≡ false → same ys xs ≡ false
differ-turned xs ys e = which (same ys xs) refl
  where
    which : (t : Bool) → same ys xs ≡ t → t ≡ false
    which true g = absurd (true-not-false (same-turned ys xs g) e)
    which false g = refl

-- what a list of marks names with one more
pub names-here : (m : List ℕ) (seen : List (List ℕ)) (x : List ℕ) → same x m ≡ true → names (m ∷ seen) x ≡ true
unfolding names any
names-here m seen x e = sym (either_first _ e refl)

pub names-there : (m : List ℕ) (seen : List (List ℕ)) (x : List ℕ) → names seen x ≡ true → names (m ∷ seen) x ≡ true
unfolding names any either
names-there m seen x e = which (same x m)
  where
    which : (t : Bool) → either t (any (same x) seen) ≡ true
    which true = refl
    which false = e

pub names-not : (m : List ℕ) (seen : List (List ℕ)) (x : List ℕ) → same x m ≡ false → names seen x ≡ false → names (m ∷ seen) x ≡ false
unfolding names any
names-not m seen x e g = sym (either_second e (sym g))

-- the first of some entries
pub record Parted (text stack : List ℕ) (k : ℕ) (es : List Entry) : Type 0 where
  pub entry : Entry
  pub others : List Entry
  pub is : es ≡ entry ∷ others
  pub shown : MarkShown text stack k entry
  pub more : Along (MarkShown text stack) (k + 1) others

pub parted : {text stack : List ℕ} {k : ℕ} {es : List Entry} → Along (MarkShown text stack) k es → 0 < length es → Parted text stack k es
parted ends h = absurd (omega arith)
parted (next {x = e} {xs = es} s p more) h = record { entry = e; others = es; is = refl; shown = p; more = rw s at more }

check-nothing : (labels : List (List ℕ)) (seen : List (List ℕ)) (rest : Result Memory) → check_marks labels seen (marks []) rest ≡ rest
unfolding check_marks marks
check-nothing labels seen rest = refl

-- the marks of what is left, by the mark of the row
left-bare : {text stack : List ℕ} {k : ℕ} {es : List Entry} (p : Parted text stack k es) → row_mark text stack k ≡ none → marks es ≡ marks p.others
unfolding marks with_mark
left-bare p e = rw (p.is, sym p.shown.is ∙ e) refl

left-marked : {text stack : List ℕ} {k : ℕ} {es : List Entry} {m : List ℕ} (p : Parted text stack k es) → row_mark text stack k ≡ some m → marks es ≡ m ∷ marks p.others
unfolding marks with_mark
left-marked p e = rw (p.is, sym p.shown.is ∙ e) refl

-- the chain at a mark that passes, that names nothing, and that was seen
check-once : (labels seen : List (List ℕ)) (m : List ℕ) (ms : List (List ℕ)) (rest : Result Memory) → names labels m ≡ true → names seen m ≡ false
    → check_marks labels seen (m ∷ ms) rest ≡ check_marks labels (m ∷ seen) ms rest
unfolding check_marks
check-once labels seen m ms rest known new = chain-skip BadExplicitLabel _ (no-of-true known) ∙ chain-skip DuplicateExplicitLabel _ new

check-unknown : (labels seen : List (List ℕ)) (m : List ℕ) (ms : List (List ℕ)) (rest : Result Memory) → names labels m ≡ false
    → check_marks labels seen (m ∷ ms) rest ≡ stop BadExplicitLabel
unfolding check_marks
check-unknown labels seen m ms rest strange = chain-stop _ (no-of-false strange)

check-twice : (labels seen : List (List ℕ)) (m : List ℕ) (ms : List (List ℕ)) (rest : Result Memory) → names labels m ≡ true → names seen m ≡ true
    → check_marks labels seen (m ∷ ms) rest ≡ stop DuplicateExplicitLabel
unfolding check_marks
check-twice labels seen m ms rest known old = chain-skip BadExplicitLabel _ (no-of-true known) ∙ chain-stop _ old

-- how far the definition's chain is
pub record Judged (labels : List (List ℕ)) (text stack : List ℕ) (base k : ℕ) (es : List Entry) : Type 0 where
  pub left : List Entry
  pub shown : Along (MarkShown text stack) k left
  pub end : k + length left ≡ base + length es
  pub seen : List (List ℕ)
  pub has : (m : List ℕ) (r : ℕ) → base ≤ r → r < k → is_marked m (row_mark text stack r) ≡ true → names seen m ≡ true
  pub lacks : (m : List ℕ) → ((r : ℕ) → base ≤ r → r < k → is_marked m (row_mark text stack r) ≡ false) → names seen m ≡ false
  pub is : (rest : Result Memory) → check_marks labels [] (marks es) rest ≡ check_marks labels seen (marks left) rest

module _ {labels : List (List ℕ)} {text stack : List ℕ} where
  pub judged-none : {base : ℕ} {es : List Entry} → Along (MarkShown text stack) base es → Judged labels text stack base base es
  unfolding names any
  judged-none {es = es} shown =
      record {
        left = es;
        shown = shown;
        end = refl;
        seen = [];
        has = λ m r low high e. absurd (omega arith);
        lacks = λ m all. refl;
        is = λ rest. refl;
      }

  module _ {base k : ℕ} {es : List Entry} (j : Judged labels text stack base k es) (some_left : k < base + length es) where
    part : Parted text stack k j.left
    part = parted j.shown (let e = j.end in omega arith)

    part_length : length j.left ≡ length part.others + 1
    part_length = ap length part.is ∙ (omega arith)

    pub judged-bare : row_mark text stack k ≡ none → Judged labels text stack base (k + 1) es
    judged-bare e =
        record {
          left = part.others;
          shown = part.more;
          end = let n = part_length in let z = j.end in omega arith;
          seen = j.seen;
          has = λ m. rows_more base k (j.has m) (λ yes. absurd (true-not-false yes (marked-none m e)));
          lacks = λ m all. j.lacks m (λ r low high. all r low (omega arith));
          is = λ rest. j.is rest ∙ ap (λ (ms : List (List ℕ)). check_marks labels j.seen ms rest) (left-bare part e);
        }

    pub judged-once : {m : List ℕ} → base ≤ k → row_mark text stack k ≡ some m → names labels m ≡ true
        → ((r : ℕ) → base ≤ r → r < k → is_marked m (row_mark text stack r) ≡ false) → Judged labels text stack base (k + 1) es
    judged-once {m} low e known new =
        record {
          left = part.others;
          shown = part.more;
          end = let n = part_length in let z = j.end in omega arith;
          seen = m ∷ j.seen;
          has = λ x.
              rows_more base k (λ r g h yes. names-there m j.seen x (j.has x r g h yes))
              (λ yes. names-here m j.seen x (same-turned m x (sym (marked-some x e) ∙ yes)));
          lacks = λ x all.
              names-not m j.seen x (differ-turned m x (sym (marked-some x e) ∙ all k low (omega arith)))
              (j.lacks x (λ r g h. all r g (omega arith)));
          is = λ rest.
              j.is rest ∙ (ap (λ (ms : List (List ℕ)). check_marks labels j.seen ms rest) (left-marked part e)
              ∙ check-once labels j.seen _ _ rest known (j.lacks m new));
        }

    -- a row that passes
    pub judged-more : base ≤ k → Checks labels text stack base k (Ok tt) → Judged labels text stack base (k + 1) es
    judged-more low (bare e) = judged-bare e
    judged-more low (once e known new) = judged-once low e known new

    -- a row that is refused
    pub judged-stop : {why : Refusal} (rest : Result Memory) → Checks labels text stack base k (Err why)
        → check_marks labels [] (marks es) rest ≡ stop why
    judged-stop rest (unknown e strange) =
        j.is rest ∙ (ap (λ (ms : List (List ℕ)). check_marks labels j.seen ms rest) (left-marked part e) ∙ check-unknown labels j.seen _ _ rest strange)
    judged-stop rest (twice {m} {r} e known low high old) =
        j.is rest ∙ (ap (λ (ms : List (List ℕ)). check_marks labels j.seen ms rest) (left-marked part e)
        ∙ check-twice labels j.seen _ _ rest known (j.has m r low high old))

  -- no row is left
  pub judged-done : {base k : ℕ} {es : List Entry} (rest : Result Memory) → Judged labels text stack base k es → base + length es ≤ k
      → check_marks labels [] (marks es) rest ≡ rest
  judged-done {k = k} rest j over = j.is rest ∙ nothing j.left (let e = j.end in omega arith)
    where
      nothing : (left : List Entry) → length left ≡ 0 → check_marks labels j.seen (marks left) rest ≡ rest
      nothing [] h = check-nothing labels j.seen rest
      nothing (x ∷ xs) h = absurd (omega arith)

-- so far every row passed
pub record Judging (labels : List (List ℕ)) (text stack : List ℕ) (base to k : ℕ) : Type 0 where
  pub low : base ≤ k
  pub high : k ≤ to
  pub judges : (es : List Entry) → Along (MarkShown text stack) base es → base + length es ≡ to → Judged labels text stack base k es

module _ {labels : List (List ℕ)} {text stack : List ℕ} {base to : ℕ} where
  pub judging-none : base ≤ to → Judging labels text stack base to base
  judging-none h = record { low = omega arith; high = h; judges = λ es shown size. judged-none shown }

  pub judging-more : {k : ℕ} {answer : Passed} → Judging labels text stack base to k → k < to → answer ≡ (Ok tt) → Checks labels text stack base k answer
      → Judging labels text stack base to (k + 1)
  judging-more {k} j h e check =
      record {
        low = let l = j.low in omega arith;
        high = omega arith;
        judges = λ es shown size. judged-more (j.judges es shown size) (omega arith) j.low (rw e at check);
      }

  pub judging-stop : {k : ℕ} {answer : Passed} {why : Refusal} → Judging labels text stack base to k → k < to → answer ≡ Err why
      → Checks labels text stack base k answer → ChecksMarks labels text stack base to (Err why)
  unfolding judged
  judging-stop j h e check =
      record { checks = λ es shown size rest. judged-stop (j.judges es shown size) (omega arith) rest (rw e at check) }

  pub judging-done : {k : ℕ} → Judging labels text stack base to k → to ≤ k → ChecksMarks labels text stack base to (Ok tt)
  unfolding judged
  judging-done j h = record { checks = λ es shown size rest. judged-done rest (j.judges es shown size) (omega arith) }
