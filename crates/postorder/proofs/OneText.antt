-- One text, one post-order: labels are not empty, have no space in them, and differ. So a text has one reading as a list of statements.
use Prim.Native.Nat.{ℕ, ◌≤◌, ◌<◌}
use mathlib.Core.Path.{◌≡◌, refl, sym}
use mathlib.Core.List.Memᴰ
use mathlib.Core.List.{List, [], ◌∷◌, ◌++◌}
use native.Mathlib.Omega.{arith}
use lib.ListN.{length}
use Rattle.book.specs.Book.{Expression, Tree, leaf, node, Forest, empty, and, Derives, supposed, applied, DeriveAll, nothing, more}
use Rattle.frames.specs.Database.{Database}
use Rattle.frames.specs.Facts.{◌∈◌, LabelByte, small, capital, digit, hyphen, underscore, dot, Facts}
use Rattle.machine.specs.Ground.{ground}
use Rattle.machine.specs.Apply.{label_of}
use Rattle.machine.proofs.Every.{Every, none, also, every_append}
use Rattle.postorder.specs.LongForm.{post_order, post_orders, following, joined, long_text}
use Rattle.postorder.proofs.OneReading.{one-derivation}

-- a label byte is no space
pub no-space : {b : ℕ} → LabelByte b → b ≡ 32 → ⊥
no-space (small l h) e = omega arith
no-space (capital l h) e = omega arith
no-space (digit l h) e = omega arith
no-space (hyphen q) e = omega arith
no-space (underscore q) e = omega arith
no-space (dot q) e = omega arith

-- nothing, or a space and more
data Ends : List ℕ → Type 0 where
  at_end : Ends []
  at_space : {bs : List ℕ} → Ends (32 ∷ bs)

-- two texts that begin with a label each: the labels are the same, and so is the rest
first-same : {xs ys : List ℕ} {u v : List ℕ} → Every LabelByte xs → Every LabelByte ys → Ends u → Ends v → xs ++ u ≡ ys ++ v → (xs ≡ ys) × (u ≡ v)
first-same none none a b e = (refl, e)
first-same none (also {x = y} {xs = ys} l ls) at_end b e = let z : ◌≡◌ {A = ℕ} 0 1 = cc in absurd (omega arith)
first-same none (also {x = y} {xs = ys} l ls) at_space b e = let z : 32 ≡ y = cc in absurd (no-space l (sym z))
first-same (also {x} {xs} l ls) none a at_end e = let z : ◌≡◌ {A = ℕ} 0 1 = cc in absurd (omega arith)
first-same (also {x} {xs} l ls) none a at_space e = let z : x ≡ 32 = cc in absurd (no-space l z)
first-same {u} {v} (also {x} {xs} l ls) (also {x = y} {xs = ys} k ks) a b e =
    let tail : xs ++ u ≡ ys ++ v = cc in
    let both = first-same ls ks a b tail in
    let head : x ≡ y = cc in
    (cc both.0, both.1)

module _ (db : Database) (facts : Facts db) where
  -- a number that is a statement's
  pub record Numbered (s : ℕ) : Type 0 where
    pub there : s < length db.statements

  made_every : (xs : List ℕ) → ((b : ℕ) → b ∈ xs → LabelByte b) → Every LabelByte xs
  made_every [] f = none
  made_every (x ∷ xs) f = also (f x (Memᴰ.head refl)) (made_every xs (λ b m. f b (Memᴰ.tail m)))

  pub label_bytes : (s : ℕ) → Numbered s → Every LabelByte (label_of db s)
  unfolding label_of
  label_bytes s n = made_every _ (facts.statement s n.there).label_bytes

  pub label_some : (s : ℕ) → Numbered s → 1 ≤ length (label_of db s)
  unfolding label_of
  label_some s n = (facts.statement s n.there).label_some

  same-label : (s t : ℕ) → Numbered s → Numbered t → label_of db s ≡ label_of db t → s ≡ t
  unfolding label_of
  same-label s t n k e = facts.labels_differ s t n.there k.there e

  following-ends : (ss : List ℕ) → Ends (following db ss)
  unfolding following
  following-ends [] = at_end
  following-ends (s ∷ ss) = at_space

  following-same : {ss ts : List ℕ} → Every Numbered ss → Every Numbered ts → following db ss ≡ following db ts → ss ≡ ts
  unfolding following
  following-same none none e = refl
  following-same none (also n ns) e = let z : ◌≡◌ {A = ℕ} 0 1 = cc in absurd (omega arith)
  following-same (also n ns) none e = let z : ◌≡◌ {A = ℕ} 0 1 = cc in absurd (omega arith)
  following-same (also {x = s} {xs = ss} n ns) (also {x = t} {xs = ts} k ks) e =
      let tails : label_of db s ++ following db ss ≡ label_of db t ++ following db ts = cc in
      let both = first-same (label_bytes s n) (label_bytes t k) (following-ends ss) (following-ends ts) tails in
      cc (same-label s t n k both.0, following-same ns ks both.1)

  long-enough : (xs u : List ℕ) → 1 ≤ length xs → xs ++ u ≡ [] → ⊥
  long-enough [] u l e = omega arith
  long-enough (x ∷ xs) u l e = let z : ◌≡◌ {A = ℕ} 0 1 = cc in omega arith

  pub joined_same : {ss ts : List ℕ} → Every Numbered ss → Every Numbered ts → joined db ss ≡ joined db ts → ss ≡ ts
  unfolding joined
  joined_same none none e = refl
  joined_same none (also {x = t} k ks) e = absurd (long-enough (label_of db t) _ (label_some t k) (sym e))
  joined_same (also {x = s} n ns) none e = absurd (long-enough (label_of db s) _ (label_some s n) e)
  joined_same (also {x = s} {xs = ss} n ns) (also {x = t} {xs = ts} k ks) e =
      let both = first-same (label_bytes s n) (label_bytes t k) (following-ends ss) (following-ends ts) e in
      cc (same-label s t n k both.0, following-same ns ks both.1)

  module _ (p : ℕ) (there' : p < length db.statements) where
    mutual
      unfolding ground post_order

      pub derivation-numbered : (tree : Tree) {e : Expression} → Derives (ground db p) tree e → Every Numbered (post_order tree)
      derivation-numbered (leaf h) (supposed _ e may) =
          let l = may.active.earlier in
          also {x = h} (record { there = omega arith }) none
      derivation-numbered (node a trees) (applied _ frame σ _ may all kept) =
          let l = may.before in
          every_append (derivations-numbered trees all) (also {x = a} (record { there = omega arith }) none)

      derivations-numbered : (trees : Forest) {es : List Expression} → DeriveAll (ground db p) trees es → Every Numbered (post_orders trees)
      derivations-numbered empty nothing = none
      derivations-numbered (and tree trees) (more _ _ e es d ds) = every_append (derivation-numbered tree d) (derivations-numbered trees ds)

    -- one reading: two derivations for the same statement with the same text are equal
    pub one-reading : (tree tree' : Tree) {e e' : Expression} → Derives (ground db p) tree e → Derives (ground db p) tree' e'
        → long_text db tree ≡ long_text db tree' → tree ≡ tree'
    unfolding long_text
    one-reading tree tree' d d' e =
        one-derivation db p tree tree' d d' (joined_same (derivation-numbered tree d) (derivation-numbered tree' d') e)
