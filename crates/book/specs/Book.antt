-- What a derivation is, by the Metamath book: expressions, substitutions, frames, and the trees that prove an expression. There are no
-- bytes here and no stack. A symbol is a number, and so is a statement.
use Rattle.std.specs.Prelude.{ℕ, ◌≡◌, Bool, true, false, ◌⊎◌}
use mathlib.Core.List.{List, [], ◌∷◌, ◌++◌, map, Memᴰ}

-- an expression: its typecode, and the symbols after it
pub record Expression : Type 0 where
  pub typecode : ℕ
  pub symbols : List ℕ

-- a substitution gives a sequence of symbols, possibly empty, for each variable
abbrev pub Substitution : Type 0
Substitution = ℕ → List ℕ

-- what becomes of one symbol: a variable is replaced, a constant stays
unfoldable pub replaced : Bool → List ℕ → ℕ → List ℕ
replaced true image s = image
replaced false image s = s ∷ []

-- what becomes of a sequence, where `variable` tells the variables: all of them are replaced at once
unfoldable pub substituted : (ℕ → Bool) → Substitution → List ℕ → List ℕ
substituted variable σ [] = []
substituted variable σ (s ∷ ss) = replaced (variable s) (σ s) s ++ substituted variable σ ss

-- an expression under a substitution: its typecode stays
unfoldable pub under : (ℕ → Bool) → Substitution → Expression → Expression
under variable σ e = record { typecode = e.typecode; symbols = substituted variable σ e.symbols }

-- the frame of an assertion: its mandatory hypotheses in the order in which they stand (a $f is the expression of its typecode and its
-- variable alone), its mandatory disjoint pairs, and what it asserts. In a database each variable of the claim or of a $e has its $f
-- among the hypotheses
pub record Frame : Type 0 where
  pub hypotheses : List Expression
  pub pairs : List (ℕ × ℕ)
  pub claim : Expression

-- what the derivation of a statement may rest on: which symbols are variables; the statement's own $e and the active $f, each with its
-- expression; the earlier assertions, each with its frame; the statement's disjoint pairs
pub record Ground : Type 1 where
  pub variable : ℕ → Bool
  pub Hypothesis : ℕ → Expression → Type 0
  pub Assertion : ℕ → Frame → Type 0
  pub pairs : List (ℕ × ℕ)

-- two variables are disjoint: they differ, and they are a pair of the statement, in either order
pub record Disjoint (ground : Ground) (u v : ℕ) : Type 0 where
  pub differ : u ≡ v → ⊥
  pub declared : Memᴰ (u, v) ground.pairs ⊎ Memᴰ (v, u) ground.pairs

-- a variable occurs in a sequence
pub record Occurs (ground : Ground) (v : ℕ) (sequence : List ℕ) : Type 0 where
  pub variable : ground.variable v ≡ true
  pub stands : Memᴰ v sequence

-- a substitution keeps a pair: every variable of one image and every variable of the other are disjoint
abbrev pub Keeps : Ground → Substitution → ℕ × ℕ → Type 0
Keeps ground σ q = (u v : ℕ) → Occurs ground u (σ q.0) → Occurs ground v (σ q.1) → Disjoint ground u v

-- the tree of a derivation: a leaf is a hypothesis, a node is an assertion over one tree for each of its hypotheses, in order
mutual
  pub data Tree : Type 0 where
    leaf : ℕ → Tree
    node : ℕ → Forest → Tree

  pub data Forest : Type 0 where
    empty : Forest
    and : Tree → Forest → Forest

-- a tree derives an expression: a leaf that of its hypothesis; a node the claim of its assertion under one substitution that
-- keeps every mandatory pair, where the trees below it derive the hypotheses under that substitution, each $f at its
-- typecode and each $e as substituted
mutual
  pub data Derives (ground : Ground) : Tree → Expression → Type 0 where
    supposed : (h : ℕ) (e : Expression) → ground.Hypothesis h e → Derives ground (leaf h) e
    applied : (a : ℕ) (frame : Frame) (σ : Substitution) (trees : Forest)
        → ground.Assertion a frame
        → DeriveAll ground trees (map (under ground.variable σ) frame.hypotheses)
        → ((q : ℕ × ℕ) → Memᴰ q frame.pairs → Keeps ground σ q)
        → Derives ground (node a trees) (under ground.variable σ frame.claim)

  pub data DeriveAll (ground : Ground) : Forest → List Expression → Type 0 where
    nothing : DeriveAll ground empty []
    more : (tree : Tree) (trees : Forest) (e : Expression) (es : List Expression)
        → Derives ground tree e → DeriveAll ground trees es → DeriveAll ground (and tree trees) (e ∷ es)
