-- The labels of a derivation, run one after another, leave its tree and its expression on the stack, or lack room.
use Prim.Native.Nat.{ℕ, ◌≤◌, ◌<◌}
use mathlib.Core.Path.{◌≡◌, refl, ap, ◌∙◌}
use mathlib.Core.Bool.{true}
use mathlib.Core.Logic.{◌⊎◌, inl, inr}
use mathlib.Core.List.Memᴰ
use mathlib.Core.List.{List, [], ◌∷◌, ◌++◌, map}
use native.Mathlib.Omega.{arith}
use lib.ListN.{length}
use Rattle.book.specs.Book.{Expression, Frame, Substitution, under, Tree, leaf, node, Forest, empty, and, Keeps, Derives, supposed, applied, DeriveAll, nothing, more}
use Rattle.frames.specs.Database.{Database}
use Rattle.frames.specs.Facts.{◌∈◌, statement_of, floated, Facts}
use Rattle.machine.specs.Chain.{Result, fine, bind}
use Rattle.machine.specs.Ground.{is_variable, is_float, expression_of, frame_pairs, frame_of, MaySuppose, MayApply, ground}
use Rattle.machine.specs.Memory.{Room, Proved, Entry, Memory}
use Rattle.machine.specs.Prepare.{leaf_of}
use Rattle.machine.specs.Apply.{forest}
use Rattle.postorder.specs.LongForm.{post_order, post_orders}
use Rattle.postorder.proofs.Comes.{Comes, comes, lacks, bind-comes, bind-parts}
use Rattle.postorder.proofs.OneReading.{supposes-no}
use Rattle.postorder.proofs.Agree.{matched-of}
use Rattle.postorder.proofs.Entries.{stacked}
use Rattle.postorder.proofs.Steps.{step_of, Within, node_of, After, applied-nameable, leaf-step, node-step}

-- labels one after another
unfoldable pub run_all : Database → ℕ → Room → List ℕ → Memory → Result Memory
run_all db p room [] m = fine m
run_all db p room (s ∷ ss) m = bind (step_of db p room s m) (run_all db p room ss)

-- the variable of each $f among these statements is among these variables
pub record Covered (db : Database) (vars ss : List ℕ) : Type 0 where
  pub each : (s : ℕ) → s ∈ ss → is_float (statement_of db s) ≡ true → floated (statement_of db s) ∈ vars

-- what is proved, by its expression and its tree
unfoldable pub proved : Expression → Tree → Proved
proved e tree = record { expression = e; tree = tree }

-- after the labels of several trees: one entry for each, the last on top
pub record AfterAll (vars : List ℕ) (trees : Forest) (es : List Expression) (m m' : Memory) : Type 0 where
  pub entries : List Proved
  pub trees_are : forest entries ≡ trees
  pub expressions_are : map (λ (x : Proved). x.expression) entries ≡ es
  pub stack : m'.stack ≡ stacked entries m.stack
  pub within : Within vars m'

module _ (db : Database) (p : ℕ) (room : Room) where
  pub runs_append : {P Q : Memory → Type 0} (xs ys : List ℕ) (m : Memory) → Comes P (run_all db p room xs m)
      → ((m' : Memory) → P m' → Comes Q (run_all db p room ys m')) → Comes Q (run_all db p room (xs ++ ys) m)
  unfolding run_all
  runs_append [] ys m (comes q) rest = rest m q
  runs_append (x ∷ xs) ys m c rest = bind-comes (bind-parts (step_of db p room x m) c) (λ m' d. runs_append xs ys m' d rest)

module _ (db : Database) (p : ℕ) (facts : Facts db) (there : p < length db.statements) (room : Room) (vars : List ℕ)
    (few : length vars ≤ 256) where
  leaf-runs : (h : ℕ) (e : Expression) → MaySuppose db p h e → Covered db vars (h ∷ []) → (m : Memory) → Within vars m
      → Comes (After vars (proved e (leaf h)) m) (run_all db p room (h ∷ []) m)
  unfolding run_all proved leaf_of
  leaf-runs h e may c m w =
      rw may.is (bind-comes (leaf-step db p facts there room vars few h may m w (c.each h (Memᴰ.head refl))) (λ m' a. comes a))

  one_more : (vars : List ℕ) (tree : Tree) (trees : Forest) (e : Expression) (es : List Expression) (m m' m'' : Memory)
      → After vars (proved e tree) m m' → AfterAll vars trees es m' m'' → AfterAll vars (and tree trees) (e ∷ es) m m''
  unfolding proved forest stacked
  one_more vars tree trees e es m m' m'' a b =
      record {
        entries = proved e tree ∷ b.entries;
        trees_are = ap (λ (ts : Forest). and tree ts) b.trees_are;
        expressions_are = ap (λ (xs : List Expression). e ∷ xs) b.expressions_are;
        stack = b.stack ∙ ap (λ (st : List Entry). stacked b.entries st) a.stack;
        within = b.within;
      }

  then-all : (vars : List ℕ) (tree : Tree) (trees : Forest) (e : Expression) (es : List Expression) (m m' : Memory) {r : Result Memory}
      → After vars (proved e tree) m m' → Comes (AfterAll vars trees es m') r → Comes (AfterAll vars (and tree trees) (e ∷ es) m) r
  then-all vars tree trees e es m m' a (comes b) = comes (one_more vars tree trees e es m m' _ a b)
  then-all vars tree trees e es m m' a (lacks l) = lacks l

  nothing_run : (m : Memory) → Within vars m → AfterAll vars empty [] m m
  unfolding forest stacked
  nothing_run m w = record { entries = []; trees_are = refl; expressions_are = refl; stack = refl; within = w }

  kind_high : (a : ℕ) → ((statement_of db a).kind ≡ 4) ⊎ ((statement_of db a).kind ≡ 5) → 4 ≤ (statement_of db a).kind
  kind_high a (inl k) = omega arith
  kind_high a (inr k) = omega arith

  node-runs : (a : ℕ) (frame : Frame) (τ : Substitution) (trees : Forest) → MayApply db p a frame
      → ((q : ℕ × ℕ) → q ∈ frame.pairs → Keeps (ground db p) τ q) → (m m' : Memory)
      → AfterAll vars trees (map (under (is_variable db) τ) frame.hypotheses) m m'
      → Comes (After vars (proved (under (is_variable db) τ frame.claim) (node a trees)) m) (run_all db p room (a ∷ []) m')
  unfolding run_all proved node_of frame_of
  node-runs a frame τ trees may kept m m' all =
      let as-frame : frame ≡ frame_of db a = may.is in
      let listed : map (λ (x : Proved). x.expression) all.entries ≡ map (under (is_variable db) τ) (map (expression_of db) (statement_of db a).hyps) =
      all.expressions_are ∙ ap (λ (f : Frame). map (under (is_variable db) τ) f.hypotheses) as-frame in
      let pairs-kept : (q : ℕ × ℕ) → q ∈ frame_pairs db (statement_of db a) → Keeps (ground db p) τ q = rw as-frame at kept in
      bind-comes
      (node-step db p facts there room vars few a may.before (kind_high a may.kind) τ pairs-kept all.entries
      (matched-of db τ (statement_of db a).hyps all.entries listed)
      (applied-nameable db p a may) (supposes-no _ may.kind) m' m.stack all.within all.stack)
      (λ m'' r. comes (record { stack = rw (as-frame, ← all.trees_are) r.0; within = r.1 }))

  mutual
    unfolding post_order ground run_all

    pub tree-runs : (tree : Tree) {e : Expression} → Derives (ground db p) tree e → Covered db vars (post_order tree) → (m : Memory)
        → Within vars m → Comes (After vars (proved e tree) m) (run_all db p room (post_order tree) m)
    tree-runs (leaf h) (supposed _ e may) c m w = leaf-runs h e may c m w
    tree-runs (node a trees) (applied _ frame τ _ may all kept) c m w =
        runs_append db p room (post_orders trees) (a ∷ []) m
        (forest-runs trees all (record { each = λ s n. c.each s (Memᴰ.append_left (a ∷ []) n) }) m w)
        (λ m' after. node-runs a frame τ trees may kept m m' after)

    pub forest-runs : (trees : Forest) {es : List Expression} → DeriveAll (ground db p) trees es → Covered db vars (post_orders trees) → (m : Memory)
        → Within vars m → Comes (AfterAll vars trees es m) (run_all db p room (post_orders trees) m)
    forest-runs empty nothing c m w = comes (nothing_run m w)
    forest-runs (and tree trees) (more _ _ e es d ds) c m w =
        runs_append db p room (post_order tree) (post_orders trees) m
        (tree-runs tree d (record { each = λ s n. c.each s (Memᴰ.append_left (post_orders trees) n) }) m w)
        (λ m' a. then-all vars tree trees e es m m' a
        (forest-runs trees ds (record { each = λ s n. c.each s (Memᴰ.append_right (post_order tree) n) }) m' a.within))
