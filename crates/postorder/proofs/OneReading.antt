-- One reading: labels in post-order stand for one derivation only. A reader with a stack rebuilds the tree, since each label tells how
-- many trees it takes.
use Prim.Native.Nat.{ℕ, zero, suc, ◌+◌}
use mathlib.Core.Path.{◌≡◌, refl, sym, ap, ◌∙◌}
use mathlib.Core.Bool.{true, false}
use mathlib.Core.Logic.{◌⊎◌, inl, inr}
use mathlib.Core.List.{List, [], ◌∷◌, ◌++◌, append_assoc, append-nil, map}
use native.Mathlib.Omega.{arith}
use lib.ListN.{length, length-map}
use Rattle.book.specs.Book.{Expression, Frame, Tree, leaf, node, Forest, empty, and, Substitution, under, Derives, supposed, applied, DeriveAll, nothing, more}
use Rattle.frames.specs.Logic.{pick}
use Rattle.frames.specs.Layout.{supposes}
use Rattle.frames.specs.Database.{Database}
use Rattle.frames.specs.Facts.{statement_of}
use Rattle.frames.proofs.Chains.{either_first, either_second, equal-yes, equal-no}
use Rattle.machine.specs.Ground.{ground, frame_of, expression_of}
use Rattle.postorder.specs.LongForm.{post_order, post_orders}

-- the kinds of hypotheses and of assertions, as tests
pub supposes-yes : (k : ℕ) → (k ≡ 2) ⊎ (k ≡ 3) → supposes k ≡ true
unfolding supposes
supposes-yes k (inl e) = sym (either_first _ (equal-yes e) refl)
supposes-yes k (inr e) = sym (either_second (equal-no (λ q. omega arith)) (sym (equal-yes e)))

pub supposes-no : (k : ℕ) → (k ≡ 4) ⊎ (k ≡ 5) → supposes k ≡ false
unfolding supposes
supposes-no k (inl e) = sym (either_second (equal-no (λ q. omega arith)) (sym (equal-no (λ q. omega arith))))
supposes-no k (inr e) = sym (either_second (equal-no (λ q. omega arith)) (sym (equal-no (λ q. omega arith))))

module _ (db : Database) where
  -- leaves are hypotheses, and a node has as many trees below it as its assertion lists hypotheses
  mutual
    pub data Shaped : Tree → Type 0 where
      a_leaf : {h : ℕ} → supposes (statement_of db h).kind ≡ true → Shaped (leaf h)
      a_node : {a : ℕ} {trees : Forest} → supposes (statement_of db a).kind ≡ false → ShapedAll trees (length (statement_of db a).hyps)
          → Shaped (node a trees)

    pub data ShapedAll : Forest → ℕ → Type 0 where
      none_left : ShapedAll empty 0
      one_more : {tree : Tree} {trees : Forest} {n : ℕ} → Shaped tree → ShapedAll trees n → ShapedAll (and tree trees) (suc n)

  -- a derivation is shaped so
  as_many : {trees : Forest} {n k : ℕ} → n ≡ k → ShapedAll trees n → ShapedAll trees k
  as_many e s = rw e at s

  hyps-count : (p a : ℕ) (frame : Frame) (σ : Substitution) → frame ≡ frame_of db a
      → length (map (under (ground db p).variable σ) frame.hypotheses) ≡ length (statement_of db a).hyps
  unfolding frame_of
  hyps-count p a frame σ e =
      length-map frame.hypotheses _ ∙ (ap (λ (f : Frame). length f.hypotheses) e ∙ length-map (statement_of db a).hyps (expression_of db))

  mutual
    unfolding ground

    pub derivation-shaped : (p : ℕ) (tree : Tree) {e : Expression} → Derives (ground db p) tree e → Shaped tree
    derivation-shaped p (leaf h) (supposed _ e may) = a_leaf (supposes-yes _ may.active.kind)
    derivation-shaped p (node a trees) (applied _ frame σ _ may all kept) =
        a_node (supposes-no _ may.kind) (as_many (hyps-count p a frame σ may.is) (derivations-shaped p trees all))

    derivations-shaped : (p : ℕ) (trees : Forest) {es : List Expression} → DeriveAll (ground db p) trees es → ShapedAll trees (length es)
    derivations-shaped p empty nothing = none_left
    derivations-shaped p (and tree trees) (more _ _ e es d ds) = one_more (derivation-shaped p tree d) (derivations-shaped p trees ds)

  -- the reader: a hypothesis is a leaf; an assertion takes the trees that it needs, the last of them from the top
  abbrev gathered : ℕ → List Tree → Forest → Forest
  gathered zero stack below = below
  gathered (suc n) [] below = below
  gathered (suc n) (tree ∷ stack) below = gathered n stack (and tree below)

  abbrev dropped : ℕ → List Tree → List Tree
  dropped zero stack = stack
  dropped (suc n) [] = []
  dropped (suc n) (tree ∷ stack) = dropped n stack

  unfoldable reads : ℕ → List Tree → List Tree
  reads s stack =
      pick (supposes (statement_of db s).kind) (leaf s ∷ stack)
      (node s (gathered (length (statement_of db s).hyps) stack empty) ∷ dropped (length (statement_of db s).hyps) stack)

  abbrev rebuilt : List ℕ → List Tree → List Tree
  rebuilt [] stack = stack
  rebuilt (s ∷ ss) stack = rebuilt ss (reads s stack)

  -- a forest on the stack, its last tree on top; and one forest before another
  abbrev pushed : Forest → List Tree → List Tree
  pushed empty stack = stack
  pushed (and tree trees) stack = pushed trees (tree ∷ stack)

  abbrev before : Forest → Forest → Forest
  before empty below = below
  before (and tree trees) below = and tree (before trees below)

  before-empty : (trees : Forest) → before trees empty ≡ trees
  before-empty empty = refl
  before-empty (and tree trees) = ap (λ (ts : Forest). and tree ts) (before-empty trees)

  gathers : {trees : Forest} {n : ℕ} → ShapedAll trees n → (j k : ℕ) (stack : List Tree) (below : Forest) → j ≡ k + n
      → gathered j (pushed trees stack) below ≡ gathered k stack (before trees below)
  gathers none_left j k stack below e =
      let same : j ≡ k = omega arith in
      rw same
  gathers (one_more {tree} {n} s ss) j k stack below e = gathers ss j (suc k) (tree ∷ stack) below (omega arith)

  drops : {trees : Forest} {n : ℕ} → ShapedAll trees n → (j k : ℕ) (stack : List Tree) → j ≡ k + n
      → dropped j (pushed trees stack) ≡ dropped k stack
  drops none_left j k stack e =
      let same : j ≡ k = omega arith in
      rw same
  drops (one_more {tree} {n} s ss) j k stack e = drops ss j (suc k) (tree ∷ stack) (omega arith)

  reads-leaf : (h : ℕ) (stack : List Tree) → supposes (statement_of db h).kind ≡ true → reads h stack ≡ leaf h ∷ stack
  unfolding pick reads
  reads-leaf h stack e = rw e

  reads-node : (a : ℕ) {trees : Forest} (stack : List Tree) → supposes (statement_of db a).kind ≡ false
      → ShapedAll trees (length (statement_of db a).hyps) → reads a (pushed trees stack) ≡ node a trees ∷ stack
  unfolding pick reads
  reads-node a {trees} stack e s =
      let n = length (statement_of db a).hyps in
      let zero_more : n ≡ 0 + n = omega arith in
      rw e (cc (gathers s n 0 stack empty zero_more, drops s n 0 stack zero_more, before-empty trees))

  mutual
    unfolding post_order

    reads-tree : {tree : Tree} → Shaped tree → (rest : List ℕ) (stack : List Tree)
        → rebuilt (post_order tree ++ rest) stack ≡ rebuilt rest (tree ∷ stack)
    reads-tree (a_leaf {h} e) rest stack = ap (λ (st : List Tree). rebuilt rest st) (reads-leaf h stack e)
    reads-tree (a_node {a} {trees} e s) rest stack =
        rw append_assoc (reads-forest s (a ∷ rest) stack ∙ ap (λ (st : List Tree). rebuilt rest st) (reads-node a stack e s))

    reads-forest : {trees : Forest} {n : ℕ} → ShapedAll trees n → (rest : List ℕ) (stack : List Tree)
        → rebuilt (post_orders trees ++ rest) stack ≡ rebuilt rest (pushed trees stack)
    reads-forest none_left rest stack = refl
    reads-forest (one_more {tree} {trees} s ss) rest stack =
        rw append_assoc (reads-tree s (post_orders trees ++ rest) stack ∙ reads-forest ss rest (tree ∷ stack))

  rebuilds : {tree : Tree} → Shaped tree → rebuilt (post_order tree) [] ≡ tree ∷ []
  rebuilds {tree} s = ap (λ (ss : List ℕ). rebuilt ss []) (sym (append-nil (post_order tree))) ∙ reads-tree s [] []

  -- the post-order tells the tree
  pub one-tree : {tree tree' : Tree} → Shaped tree → Shaped tree' → post_order tree ≡ post_order tree' → tree ≡ tree'
  one-tree {tree} {tree'} s s' e =
      let both : ◌≡◌ {A = List Tree} (tree ∷ []) (tree' ∷ []) = sym (rebuilds s) ∙ (ap (λ (ss : List ℕ). rebuilt ss []) e ∙ rebuilds s') in
      cc

-- two derivations for the same statement with the same post-order are equal
pub one-derivation : (db : Database) (p : ℕ) (tree tree' : Tree) {e e' : Expression} → Derives (ground db p) tree e → Derives (ground db p) tree' e'
    → post_order tree ≡ post_order tree' → tree ≡ tree'
one-derivation db p tree tree' d d' e = one-tree db (derivation-shaped db p tree d) (derivation-shaped db p tree' d') e
