-- One label of a long form as a step: a leaf pushes its hypothesis, a node replaces the entries of the trees below it by its claim as the
-- derivation has it. Nothing but a lack of room stops it.
use Prim.Native.Nat.{ℕ, ◌+◌, ◌≤◌, ◌<◌}
use mathlib.Core.Path.{◌≡◌, refl, sym, ap, ◌∙◌}
use mathlib.Core.Bool.{Bool, true, false}
use mathlib.Core.Logic.{◌⊎◌, inl, inr}
use mathlib.Core.Option.{none}
use mathlib.Core.List.{List, ◌∷◌, map, reverse}
use native.Mathlib.Omega.{arith}
use lib.ListN.{length, take, drop, length-map}
use Rattle.book.specs.Book.{Expression, Frame, Substitution, under, node, Keeps}
use Rattle.frames.specs.Logic.{pick, both, no}
use Rattle.frames.specs.Layout.{supposes}
use Rattle.frames.specs.Table.{within}
use Rattle.frames.specs.Database.{Statement, Database}
use Rattle.frames.specs.Facts.{◌∈◌, statement_of, floated, Facts}
use Rattle.frames.proofs.Chains.{below-no, below-yes, at_most-no, both_first, both-second, either_first, equal-yes, no-of-true}
use Rattle.machine.specs.Chain.{Result, bind}
use Rattle.machine.specs.Ground.{is_variable, is_float, expression_of, frame_pairs, MaySuppose, MayApply, ground}
use Rattle.machine.specs.Reading.{parts}
use Rattle.machine.specs.Memory.{Room, Proved, recalls, applies, Entry, Memory, push}
use Rattle.machine.specs.Prepare.{numbered, numbered_by, Ready, ready, spend, leaf_of, prepare_hypothesis, prepare_statement, prepare_normal}
use Rattle.machine.specs.Apply.{label_of, check_marks, bound, forest, conclusion, conclude, apply_assertion, assign_entries, run_prepared, run_ready}
use Rattle.machine.proofs.Bound.{float-kind}
use Rattle.postorder.proofs.Comes.{pool_full, stack_full, Comes, comes, unless_not, unless-lacks, bind-comes, pick_yes, pick-not}
use Rattle.postorder.proofs.OneReading.{supposes-yes}
use Rattle.postorder.proofs.Naming.{Nameable, prepared-itself}
use Rattle.postorder.proofs.Agree.{Matched, matched-length, float_same, claim-same, essential-same, hyps-pass}
use Rattle.postorder.proofs.KeptPairs.{either-yes, pairs-pass}
use Rattle.postorder.proofs.Few.{Once, numbers, no_more}
use Rattle.postorder.proofs.Entries.{plain, stacked, stacked-length, top-entries, below-entries, no-marks, all-unmarked, in_order}

-- one label as a step of a normal proof
unfoldable pub step_of : Database → ℕ → Room → ℕ → Memory → Result Memory
step_of db p room s m = bind (prepare_normal db p room m (parts none none (label_of db s))) (run_ready db p room none)

-- the variables numbered so far are all different, and they are among these
pub record Within (vars : List ℕ) (m : Memory) : Type 0 where
  pub once : Once m.variables
  pub each : (v : ℕ) → v ∈ m.variables → v ∈ vars

-- what a derivation has at a node: the claim of the assertion under its substitution
unfoldable pub node_of : Database → ℕ → Substitution → List Proved → Proved
node_of db a τ xs = record { expression = under (is_variable db) τ (expression_of db a); tree = node a (forest xs) }

-- after a step: what is proved lies on the stack that was there
pub record After (vars : List ℕ) (x : Proved) (m m' : Memory) : Type 0 where
  pub stack : m'.stack ≡ plain x ∷ m.stack
  pub within : Within vars m'

-- what a derivation may rest on can be named
in_scope : (end p : ℕ) → (end ≡ 4294967295) ⊎ (p < end) → within end p ≡ true
unfolding within
in_scope end p (inl e) = sym (either_first _ (equal-yes e) refl)
in_scope end p (inr l) = either-yes _ _ (below-yes l)

module _ (db : Database) (p : ℕ) where
  pub supposed-nameable : (h : ℕ) {e : Expression} → MaySuppose db p h e → Nameable db p h
  supposed-nameable h may =
      record { before = may.active.earlier; own = listed may.own; scope = λ k. in_scope _ p may.active.scope }
    where
      listed : ((statement_of db h).kind ≡ 2) ⊎ (h ∈ (statement_of db p).hyps) → (statement_of db h).kind ≡ 3 → h ∈ (statement_of db p).hyps
      listed (inl k) e = absurd (omega arith)
      listed (inr m) e = m

  neither : (a n : ℕ) → n < 4 → ((statement_of db a).kind ≡ 4) ⊎ ((statement_of db a).kind ≡ 5) → (statement_of db a).kind ≡ n → ⊥
  neither a n l (inl k) e = omega arith
  neither a n l (inr k) e = omega arith

  pub applied-nameable : (a : ℕ) {frame : Frame} → MayApply db p a frame → Nameable db p a
  applied-nameable a may =
      record {
        before = may.before;
        own = λ e. absurd (neither a 3 (omega arith) may.kind e);
        scope = λ e. absurd (neither a 2 (omega arith) may.kind e);
      }

  -- 30 does not come
  scope-passes : (s : ℕ) → Nameable db p s → both (is_float (statement_of db s)) (no (within (statement_of db s).end p)) ≡ false
  scope-passes s n = tried (is_float (statement_of db s)) refl
    where
      tried : (t : Bool) → is_float (statement_of db s) ≡ t → both (is_float (statement_of db s)) (no (within (statement_of db s).end p)) ≡ false
      tried true f = sym (both-second f (sym (no-of-true (n.scope (float-kind _ f)))))
      tried false f = sym (both_first _ f refl)

-- the variables after a hypothesis is named, where its variable is among these
named-within : (vars : List ℕ) (st : Statement) (vs : List ℕ) → (is_float st ≡ true → floated st ∈ vars) → Once vs
    → ((v : ℕ) → v ∈ vs → v ∈ vars) → Once (numbered_by st vs) × ((v : ℕ) → v ∈ numbered_by st vs → v ∈ vars)
unfolding numbered_by pick
named-within vars st vs has o f = tried (is_float st) has
  where
    cases : (floated st ∈ vars) → (v : ℕ) → (v ≡ floated st) ⊎ (v ∈ vs) → v ∈ vars
    cases h v (inl e) = rw e h
    cases h v (inr m) = f v m

    tried : (t : Bool) → (t ≡ true → floated st ∈ vars)
        → Once (pick t (numbered vs (floated st)) vs) × ((v : ℕ) → v ∈ pick t (numbered vs (floated st)) vs → v ∈ vars)
    tried true h = let n = numbers vs (floated st) in (n.once o, λ v m. cases (h refl) v (n.only v m))
    tried false h = (o, f)

module _ (db : Database) (p : ℕ) (facts : Facts db) (there : p < length db.statements) (room : Room) (vars : List ℕ)
    (few : length vars ≤ 256) where
  -- a hypothesis that is ready
  record ReadyLeaf (h : ℕ) (m : Memory) (r : Ready) : Type 0 where
    stack : r.memory.stack ≡ m.stack
    within : Within vars r.memory
    step : r.step ≡ recalls (leaf_of db h)

  leaf-prepared : (h : ℕ) (m : Memory) → Within vars m → (is_float (statement_of db h) ≡ true → floated (statement_of db h) ∈ vars)
      → Comes (ReadyLeaf h m) (prepare_hypothesis db room m h)
  unfolding prepare_hypothesis ready spend
  leaf-prepared h m w has =
      let n = named-within vars (statement_of db h) m.variables has w.once w.each in
      let l = no_more vars n.0 n.1 in
      unless_not _ (below-no (omega arith))
      (unless-lacks _ pool_full
      (comes (record { stack = refl; within = record { once = n.0; each = n.1 }; step = refl })))

  leaf-runs : (h : ℕ) (m : Memory) (r : Ready) → ReadyLeaf h m r → Comes (After vars (leaf_of db h) m) (run_ready db p room none r)
  unfolding run_ready run_prepared push plain
  leaf-runs h m r s =
      rw s.step
      (unless-lacks _ stack_full
      (comes (record {
        stack = ap (λ (es : List Entry). plain (leaf_of db h) ∷ es) s.stack;
        within = record { once = s.within.once; each = s.within.each };
      })))

  pub leaf-step : (h : ℕ) {e : Expression} → MaySuppose db p h e → (m : Memory) → Within vars m
      → (is_float (statement_of db h) ≡ true → floated (statement_of db h) ∈ vars) → Comes (After vars (leaf_of db h) m) (step_of db p room h m)
  unfolding step_of prepare_statement
  leaf-step h may m w has =
      let n = supposed-nameable db p h may in
      rw (prepared-itself db p facts there room m h n)
      (bind-comes
      (unless_not _ (at_most-no n.before)
      (unless_not _ (scope-passes db p h n)
      (pick_yes _ (supposes-yes _ may.active.kind) (leaf-prepared h m w has))))
      (leaf-runs h m))

  -- an assertion takes the entries that lie on the stack, in their order
  assigned : (m : Memory) (a : ℕ) (labels : List (List ℕ)) (xs : List Proved) → length xs ≡ length labels
      → assign_entries db p room m none a labels (map plain xs) ≡ apply_assertion db p room m none a xs
  unfolding assign_entries check_marks
  assigned m a labels xs e = rw (no-marks xs, all-unmarked xs, in_order labels xs xs e)

  concluded : (m : Memory) (x y : Proved) (h : ℕ) (left : List Entry) → Within vars m → x ≡ y → drop h m.stack ≡ left
      → Comes (λ m'. (m'.stack ≡ plain y ∷ left) × Within vars m') (conclude db room m none h x)
  unfolding conclude push spend plain
  concluded m x y h left w e d =
      unless-lacks _ pool_full
      (unless-lacks _ stack_full
      (comes (cc, record { once = w.once; each = w.each })))

  module _ (a : ℕ) (before : a < p) (kind : 4 ≤ (statement_of db a).kind) (τ : Substitution)
      (kept : (q : ℕ × ℕ) → q ∈ frame_pairs db (statement_of db a) → Keeps (ground db p) τ q)
      (xs : List Proved) (matched : Matched db τ (statement_of db a).hyps xs) where
    here : a < length db.statements
    here = omega arith

    same-result : conclusion db a (bound db (statement_of db a).hyps xs) xs ≡ node_of db a τ xs
    unfolding conclusion node_of
    same-result = cc (claim-same db τ facts a here matched kind)

    applied-entries : (m : Memory) (left : List Entry) → Within vars m → drop (length (statement_of db a).hyps) m.stack ≡ left
        → Comes (λ m'. (m'.stack ≡ plain (node_of db a τ xs) ∷ left) × Within vars m') (apply_assertion db p room m none a xs)
    unfolding apply_assertion
    applied-entries m left w d =
        hyps-pass db τ (bound db (statement_of db a).hyps xs) (statement_of db a).hyps xs matched
        (essential-same db τ facts a here matched)
        (unless_not _ (no-of-true (pairs-pass db p a _ τ (float_same db τ facts a here matched) kept))
        (concluded m _ (node_of db a τ xs) _ left w same-result d))

    entries-run : (m : Memory) (left : List Entry) → Within vars m → m.stack ≡ stacked xs left
        → Comes (λ m'. (m'.stack ≡ plain (node_of db a τ xs) ∷ left) × Within vars m') (run_prepared db p room m none (applies a))
    unfolding run_prepared
    entries-run m left w s =
        let n = length (statement_of db a).hyps in
        let l : length xs ≡ n = matched-length db τ matched in
        let top : reverse (take n m.stack) ≡ map plain xs = ap (λ (es : List Entry). reverse (take n es)) s ∙ top-entries xs left n l in
        let down : drop n m.stack ≡ left = ap (λ (es : List Entry). drop n es) s ∙ below-entries xs left n l in
        let size : length m.stack ≡ length xs + length left = ap length s ∙ stacked-length xs left in
        unless_not _ (below-no (omega arith))
        (rw (top, assigned m a (map (label_of db) (statement_of db a).hyps) xs (l ∙ sym (length-map (statement_of db a).hyps (label_of db))))
        (applied-entries m left w down))

    pub node-step : Nameable db p a → supposes (statement_of db a).kind ≡ false → (m : Memory) (left : List Entry) → Within vars m
        → m.stack ≡ stacked xs left → Comes (λ m'. (m'.stack ≡ plain (node_of db a τ xs) ∷ left) × Within vars m') (step_of db p room a m)
    unfolding step_of prepare_statement run_ready ready
    node-step n k m left w s =
        rw (prepared-itself db p facts there room m a n)
        (bind-comes {P = λ r. r ≡ ready m (applies a)}
        (unless_not _ (at_most-no before)
        (unless_not _ (scope-passes db p a n)
        (pick-not _ k (comes refl))))
        (λ r e. rw e (entries-run m left w s)))
