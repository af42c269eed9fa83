-- Where the marks pass, every hypothesis gets an entry: each mark names a hypothesis and no two are the same, so at least as many hypotheses are marked as
-- there are marks, and the others are at most as many as the entries without one.
use Prim.Native.Nat.{ℕ, suc, ◌+◌, ◌≤◌}
use mathlib.Core.Path.{◌≡◌, refl, sym, ap, ◌∙◌}
use mathlib.Core.Bool.{Bool, true, false}
use mathlib.Core.Option.{Option, none, some}
use mathlib.Core.List.{List, [], ◌∷◌}
use native.Mathlib.Omega.{arith}
use lib.ListN.{length}
use Rattle.frames.specs.Logic.{pick, same, either, any, no}
use Rattle.frames.proofs.Chains.{pick_first, pick_second}
use Rattle.frames.proofs.Tells.{true-not-false, no_false}
use Rattle.frames.proofs.Found.{same_true, same_self}
use Rattle.machine.specs.declared.Refusal.{Refusal}
use Rattle.machine.specs.declared.Refusal.TheVariants.{ProofUnderflow, BadExplicitLabel, DuplicateExplicitLabel}
use Rattle.machine.specs.Chain.{Result, stop, unless}
use Rattle.machine.specs.Memory.{Proved, Entry, Memory}
use Rattle.machine.specs.Apply.{names, with_mark, marks, check_marks, is_marked, marked, unmarked_first, unmarked, seat, arranged}
use Rattle.seats.proofs.Marking.{marked-none, marked-some}
use Rattle.seats.proofs.Checking.{same-turned, differ-turned, names-here, names-there, names-not}

-- each mark names a hypothesis, and was not seen before
pub data Passes (labels : List (List ℕ)) : List (List ℕ) → List (List ℕ) → Type 0 where
  over : {seen : List (List ℕ)} → Passes labels seen []
  more : {seen ms : List (List ℕ)} {m : List ℕ} → names labels m ≡ true → names seen m ≡ false → Passes labels (m ∷ seen) ms → Passes labels seen (m ∷ ms)

unless-past : (t : Bool) (why : Refusal) (rest : Result Memory) {x : Refusal} → (why ≡ x → ⊥) → unless t why rest ≡ stop x → (t ≡ false) × (rest ≡ stop x)
unfolding unless
unless-past true why rest other e = absurd (other (cc))
unless-past false why rest other e = (refl, e)

pub passes : (labels seen ms : List (List ℕ)) → check_marks {A = Memory} labels seen ms (stop ProofUnderflow) ≡ stop ProofUnderflow → Passes labels seen ms
unfolding check_marks
passes labels seen [] e = over
passes labels seen (m ∷ ms) e =
    let known = unless-past (no (names labels m)) BadExplicitLabel _ (λ q. let z : ◌≡◌ {A = ℕ} 0 1 = cc in omega arith) e in
    let new = unless-past (names seen m) DuplicateExplicitLabel _ (λ q. let z : ◌≡◌ {A = ℕ} 0 1 = cc in omega arith) known.1 in
    more (no_false _ known.0) new.0 (passes labels (m ∷ seen) ms new.1)

-- what was seen does not come again
passes-avoid : {labels seen ms : List (List ℕ)} (x : List ℕ) → Passes labels seen ms → names seen x ≡ true → names ms x ≡ false
unfolding names any
passes-avoid x over e = refl
passes-avoid x (more {seen} {ms} {m} known new rest) e = which (same x m) refl (passes-avoid x rest (names-there m seen x e))
  where
    which : (t : Bool) → same x m ≡ t → names ms x ≡ false → names (m ∷ ms) x ≡ false
    which true g others = absurd (true-not-false (rw (same_true x m g) at e) new)
    which false g others = names-not m ms x g others

-- how many of the labels are among the marks
unfoldable taken : List (List ℕ) → List (List ℕ) → ℕ
taken ms [] = 0
taken ms (l ∷ ls) = pick (names ms l) 1 0 + taken ms ls

one-most : (t : Bool) → pick t 1 0 ≤ 1
unfolding pick
one-most true = omega arith
one-most false = omega arith

one_more : (t u : Bool) → (t ≡ true → u ≡ true) → pick t 1 0 ≤ pick u 1 0
unfolding pick
one_more true u h = rw (h refl) (omega arith)
one_more false u h = omega arith

taken-most : (ms ls : List (List ℕ)) → taken ms ls ≤ length ls
unfolding taken
taken-most ms [] = omega arith
taken-most ms (l ∷ ls) = omega (arith, one-most (names ms l), taken-most ms ls)

taken-grows : (m : List ℕ) (ms ls : List (List ℕ)) → taken ms ls ≤ taken (m ∷ ms) ls
unfolding taken
taken-grows m ms [] = omega arith
taken-grows m ms (l ∷ ls) = omega (arith, one_more (names ms l) (names (m ∷ ms) l) (names-there m ms l), taken-grows m ms ls)

-- a new mark that names one of the labels takes one more
taken_more : (m : List ℕ) (ms ls : List (List ℕ)) → names ls m ≡ true → names ms m ≡ false → taken ms ls + 1 ≤ taken (m ∷ ms) ls
unfolding taken names any either pick
taken_more m ms [] known new = absurd (true-not-false known refl)
taken_more m ms (l ∷ ls) known new = which (same m l) refl (taken_more m ms ls)
  where
    which : (t : Bool) → same m l ≡ t → (names ls m ≡ true → names ms m ≡ false → taken ms ls + 1 ≤ taken (m ∷ ms) ls)
        → taken ms (l ∷ ls) + 1 ≤ taken (m ∷ ms) (l ∷ ls)
    which true g others =
        let here = names-here m ms l (same-turned m l g) in
        let absent : names ms l ≡ false = rw (same_true m l g) at new in
        let a : ◌≡◌ {A = ℕ} (pick (names ms l) 1 0) 0 = rw absent refl in
        let b : ◌≡◌ {A = ℕ} (pick (names (m ∷ ms) l) 1 0) 1 = rw here refl in
        omega (arith, taken-grows m ms ls)
    which false g others =
        let later : names ls m ≡ true = rw g at known in
        let a = one_more (names ms l) (names (m ∷ ms) l) (names-there m ms l) in
        omega (arith, others later new)

marks-few : {labels seen ms : List (List ℕ)} → Passes labels seen ms → length ms ≤ taken ms labels
marks-few over = omega arith
marks-few {labels} (more {seen} {ms} {m} known new rest) =
    omega (arith, marks-few rest, taken_more m ms labels known (passes-avoid m rest (names-here m seen m (same_self m))))

-- each entry has a mark or none
mark-or-none : (e : Entry) (es : List Entry) → length (marks (e ∷ es)) + length (unmarked (e ∷ es)) ≡ length (marks es) + length (unmarked es) + 1
unfolding marks with_mark unmarked unmarked_first
mark-or-none e es = which e.mark
  where
    which : (m : Option (List ℕ))
        → length (with_mark m (marks es)) + length (unmarked_first m e.proved (unmarked es)) ≡ length (marks es) + length (unmarked es) + 1
    which none = omega arith
    which (some m) = omega arith

all-counted : (es : List Entry) → length (marks es) + length (unmarked es) ≡ length es
unfolding marks unmarked
all-counted [] = refl
all-counted (e ∷ es) = omega (arith, mark-or-none e es, all-counted es)

-- the entry with a mark is found exactly where the mark is there
data Sought (label : List ℕ) (es : List Entry) : Bool → Type 0 where
  there : {x : Proved} → marked label es ≡ some x → Sought label es true
  nowhere : marked label es ≡ none → Sought label es false

sought-bare : {label : List ℕ} {e : Entry} {es : List Entry} {t : Bool} → is_marked label e.mark ≡ false → Sought label es t → Sought label (e ∷ es) t
unfolding marked
sought-bare passed (there found) = there (sym (pick_second _ passed (sym found)))
sought-bare passed (nowhere found) = nowhere (sym (pick_second _ passed (sym found)))

sought-here : {label : List ℕ} {e : Entry} (es : List Entry) → is_marked label e.mark ≡ true → Sought label (e ∷ es) true
unfolding marked
sought-here {e = e} es found = there (sym (pick_first _ found refl))

sought-marked : {label m : List ℕ} {e : Entry} {es : List Entry} {u : Bool} (t : Bool) → e.mark ≡ some m → same label m ≡ t → Sought label es u
    → Sought label (e ∷ es) (either t u)
unfolding either
sought-marked {label} {m} {es = es} true e g s = sought-here es (marked-some label e ∙ same-turned label m g)
sought-marked {label} {m} false e g s = sought-bare (marked-some label e ∙ differ-turned label m g) s

sought : (label : List ℕ) (es : List Entry) → Sought label es (names (marks es) label)
unfolding names any marks marked with_mark
sought label [] = nowhere refl
sought label (e ∷ es) = which e.mark refl (sought label es)
  where
    which : (m : Option (List ℕ)) → e.mark ≡ m → Sought label es (names (marks es) label) → Sought label (e ∷ es) (names (with_mark m (marks es)) label)
    which none g s = sought-bare (marked-none label g) s
    which (some m) g s = sought-marked (same label m) g refl s

-- the seats of the hypotheses, one after another
pub arranged-marked : (l : List ℕ) (ls : List (List ℕ)) (es : List Entry) (us : List Proved) {x : Proved} → marked l es ≡ some x
    → arranged (l ∷ ls) es us ≡ x ∷ arranged ls es us
unfolding arranged seat
arranged-marked l ls es us e = rw e refl

pub arranged-next : (l : List ℕ) (ls : List (List ℕ)) (es : List Entry) (u : Proved) (us : List Proved) → marked l es ≡ none
    → arranged (l ∷ ls) es (u ∷ us) ≡ u ∷ arranged ls es us
unfolding arranged seat
arranged-next l ls es u us e = rw e refl

pub arranged-out : (l : List ℕ) (ls : List (List ℕ)) (es : List Entry) → marked l es ≡ none → arranged (l ∷ ls) es [] ≡ []
unfolding arranged seat
arranged-out l ls es e = rw e refl

by-sought : (l : List ℕ) (ls : List (List ℕ)) (es : List Entry) (us : List Proved) {t : Bool} → Sought l es t
    → length (l ∷ ls) ≤ pick t 1 0 + taken (marks es) ls + length us
    → ((us : List Proved) → length ls ≤ taken (marks es) ls + length us → length (arranged ls es us) ≡ length ls)
    → length (arranged (l ∷ ls) es us) ≡ length (l ∷ ls)
unfolding pick
by-sought l ls es us (there e) h others = ap length (arranged-marked l ls es us e) ∙ ap suc (others us (omega arith))
by-sought l ls es [] (nowhere e) h others = absurd (omega (arith, taken-most (marks es) ls))
by-sought l ls es (u ∷ us) (nowhere e) h others = ap length (arranged-next l ls es u us e) ∙ ap suc (others us (omega arith))

-- where enough are left, every hypothesis has a seat
arranged-length : (ls : List (List ℕ)) (es : List Entry) (us : List Proved) → length ls ≤ taken (marks es) ls + length us
    → length (arranged ls es us) ≡ length ls
unfolding arranged taken
arranged-length [] es us h = refl
arranged-length (l ∷ ls) es us h = by-sought l ls es us (sought l es) h (arranged-length ls es)

pub arranged-all : {labels : List (List ℕ)} (es : List Entry) → Passes labels [] (marks es) → length es ≡ length labels
    → length (arranged labels es (unmarked es)) ≡ length labels
arranged-all {labels} es p h = arranged-length labels es (unmarked es) (omega (arith, marks-few p, all-counted es))
