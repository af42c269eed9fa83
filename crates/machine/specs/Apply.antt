-- Running a step: a recall pushes; an assertion pairs the top h entries with its hypotheses and replaces them by its claim as
-- substituted. 31 comes before, with the place; here 32, 33 or 34, 35 to 37, 38, 43, 45, in this order.
use Rattle.std.specs.Prelude.{ℕ, ◌+◌, Bool, false, List, [], ◌∷◌, map, reverse, length, take, drop}
use Rattle.std.proofs.Math.Option.{Option, none, some}
use Rattle.book.specs.Book.{Expression, Substitution, substituted, under, node, Forest, empty, and}
use Rattle.frames.specs.Logic.{below, equal, pick, either, both, no, all, any, same}
use Rattle.frames.specs.Database.{Statement, Database}
use Rattle.frames.specs.Facts.{statement_of, floated}
use Rattle.machine.specs.Chain.{Result, stop, unless}
use Rattle.machine.specs.Ground.{is_variable, is_float, expression, expression_of, add_if, frame_pairs}
use Rattle.machine.specs.Memory.{Room, Proved, Prepared, recalls, applies, Entry, Memory, cost, push}
use Rattle.machine.specs.Prepare.{Ready, spend}
use Rattle.machine.specs.declared.Refusal.TheVariants.{ProofUnderflow, BadExplicitLabel, DuplicateExplicitLabel, StepFloatWrongType, StepEssenWrongType, StepEssenWrong, ProofDvViolation, PoolFull}

-- the label of a hypothesis
unfoldable pub label_of : Database → ℕ → List ℕ
label_of db h = (statement_of db h).label

-- one of the labels is this one
unfoldable pub names : List (List ℕ) → List ℕ → Bool
names labels mark = any (same mark) labels

-- the marks of the entries, in order
unfoldable pub with_mark : Option (List ℕ) → List (List ℕ) → List (List ℕ)
with_mark none ms = ms
with_mark (some m) ms = m ∷ ms

unfoldable pub marks : List Entry → List (List ℕ)
marks [] = []
marks (e ∷ es) = with_mark e.mark (marks es)

-- the marks from the bottom up: 33 where one names no hypothesis of the assertion, 34 where it names one already marked
unfoldable pub check_marks : {A : Type 0} → List (List ℕ) → List (List ℕ) → List (List ℕ) → Result A → Result A
check_marks labels seen [] rest = rest
check_marks labels seen (m ∷ ms) rest =
    unless (no (names labels m)) BadExplicitLabel
    (unless (names seen m) DuplicateExplicitLabel
    (check_marks labels (m ∷ seen) ms rest))

-- the entry has this mark
unfoldable pub is_marked : List ℕ → Option (List ℕ) → Bool
is_marked label none = false
is_marked label (some m) = same m label

-- what is proved by the entry with this mark
unfoldable pub marked : List ℕ → List Entry → Option Proved
marked label [] = none
marked label (e ∷ es) = pick (is_marked label e.mark) (some e.proved) (marked label es)

-- what is proved by the entries without a mark, in order
unfoldable pub unmarked_first : Option (List ℕ) → Proved → List Proved → List Proved
unmarked_first none x xs = x ∷ xs
unmarked_first (some m) x xs = xs

unfoldable pub unmarked : List Entry → List Proved
unmarked [] = []
unmarked (e ∷ es) = unmarked_first e.mark e.proved (unmarked es)

-- a hypothesis has its marked entry, or else the next unmarked one (there is one, since entries and hypotheses are as many)
unfoldable pub seat : Option Proved → List Proved → (List Proved → List Proved) → List Proved
seat (some x) us others = x ∷ others us
seat none (u ∷ us) others = u ∷ others us
seat none [] others = []

-- the entries in the order of the hypotheses with these labels
unfoldable pub arranged : List (List ℕ) → List Entry → List Proved → List Proved
arranged [] es us = []
arranged (l ∷ ls) es us = seat (marked l es) us (arranged ls es)

-- statement h is a $f of variable v
unfoldable pub binds : Statement → ℕ → Bool
binds st v = both (is_float st) (equal (floated st) v)

-- the substitution: each $f binds its variable to what its entry proves
unfoldable pub bound : Database → List ℕ → List Proved → Substitution
bound db [] xs v = []
bound db (h ∷ hs) [] v = []
bound db (h ∷ hs) (x ∷ xs) v = pick (binds (statement_of db h) v) x.expression.symbols (bound db hs xs v)

-- an entry against a hypothesis: 35 for a $f of another typecode; 36 and 37 for a $e, which must equal its substitution
unfoldable pub check_hyp : {A : Type 0} → Database → Substitution → Statement → Expression → Result A → Result A
check_hyp db σ st e rest =
    unless (no (equal e.typecode (expression st).typecode)) (pick (is_float st) StepFloatWrongType StepEssenWrongType)
    (unless (both (no (is_float st)) (no (same e.symbols (substituted (is_variable db) σ (expression st).symbols)))) StepEssenWrong
    rest)

-- the hypotheses in frame order, each with its entry (there are as many of the one as of the other)
unfoldable pub check_hyps : {A : Type 0} → Database → Substitution → List ℕ → List Proved → Result A → Result A
check_hyps db σ [] [] rest = rest
check_hyps db σ [] (x ∷ xs) rest = stop ProofUnderflow
check_hyps db σ (h ∷ hs) [] rest = stop ProofUnderflow
check_hyps db σ (h ∷ hs) (x ∷ xs) rest = check_hyp db σ (statement_of db h) x.expression (check_hyps db σ hs xs rest)

-- u and v are this pair, in either order
unfoldable pub is_pair : ℕ → ℕ → ℕ × ℕ → Bool
is_pair u v q = either (both (equal u q.0) (equal v q.1)) (both (equal u q.1) (equal v q.0))

-- u and v are a disjoint pair of the statement under check
unfoldable pub disjoint : List (ℕ × ℕ) → ℕ → ℕ → Bool
disjoint pairs u v = any (is_pair u v) pairs

-- the variables that occur in a sequence
unfoldable pub variables_of : Database → List ℕ → List ℕ
variables_of db [] = []
variables_of db (s ∷ ss) = add_if (is_variable db s) s (variables_of db ss)

-- u and every one of these variables are a disjoint pair
unfoldable pub disjoint_from : List (ℕ × ℕ) → List ℕ → ℕ → Bool
disjoint_from pairs vs u = all (disjoint pairs u) vs

-- every variable of one image and every variable of the other are a disjoint pair
unfoldable pub keeps : Database → List (ℕ × ℕ) → Substitution → ℕ × ℕ → Bool
keeps db pairs σ q =
    all (disjoint_from pairs (variables_of db (σ q.1))) (variables_of db (σ q.0))

-- the trees in the order of the hypotheses
unfoldable pub forest : List Proved → Forest
forest [] = empty
forest (x ∷ xs) = and x.tree (forest xs)

-- the claim of assertion a as substituted, by the tree over those of its hypotheses
unfoldable pub conclusion : Database → ℕ → Substitution → List Proved → Proved
conclusion db a σ xs =
    record { expression = under (is_variable db) σ (expression_of db a); tree = node a (forest xs) }

-- the result of an assertion: it takes pool bytes (43), and replaces the entries (45 can only come with no hypotheses)
unfoldable pub conclude : Database → Room → Memory → Option (List ℕ) → ℕ → Proved → Result Memory
conclude db room m mark h x =
    unless (below room.pool (m.pool + cost db x.expression.symbols)) PoolFull
    (push room (spend m m.variables (cost db x.expression.symbols)) h (drop h m.stack)
    (record { proved = x; mark = mark }))

-- the tests of an assertion on its entries in frame order: 35 to 37, then 38 for each mandatory pair
unfoldable pub apply_assertion : Database → ℕ → Room → Memory → Option (List ℕ) → ℕ → List Proved → Result Memory
apply_assertion db p room m mark a xs =
    let σ = bound db (statement_of db a).hyps xs in
    check_hyps db σ (statement_of db a).hyps xs
    (unless (no (all (keeps db (statement_of db p).pairs σ) (frame_pairs db (statement_of db a)))) ProofDvViolation
    (conclude db room m mark (length (statement_of db a).hyps) (conclusion db a σ xs)))

-- an assertion whose hypotheses have these labels takes these entries, from the bottom up
unfoldable pub assign_entries : Database → ℕ → Room → Memory → Option (List ℕ) → ℕ → List (List ℕ) → List Entry → Result Memory
assign_entries db p room m mark a labels es =
    check_marks labels [] (marks es)
    (apply_assertion db p room m mark a (arranged labels es (unmarked es)))

-- a step with its mark or none: an assertion takes the top h entries, 32 where they are fewer
unfoldable pub run_prepared : Database → ℕ → Room → Memory → Option (List ℕ) → Prepared → Result Memory
run_prepared db p room m mark (recalls x) = push room m 0 m.stack (record { proved = x; mark = mark })
run_prepared db p room m mark (applies a) =
    unless (below (length m.stack) (length (statement_of db a).hyps)) ProofUnderflow
    (assign_entries db p room m mark a (map (label_of db) (statement_of db a).hyps) (reverse (take (length (statement_of db a).hyps) m.stack)))

unfoldable pub run_ready : Database → ℕ → Room → Option (List ℕ) → Ready → Result Memory
run_ready db p room mark r = run_prepared db p room r.memory mark r.step
