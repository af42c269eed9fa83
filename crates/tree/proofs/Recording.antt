-- What is recorded stays recorded when more is; and it may be read from the front.
use Prim.Native.Nat.{ℕ, zero, suc, ◌+◌, ◌*◌, ◌≤◌, ◌<◌}
use mathlib.Core.Path.{◌≡◌, refl, sym, ◌∙◌}
use mathlib.Core.List.{List, [], ◌∷◌}
use native.Mathlib.Omega.{arith}
use lib.ListN.{length, get_or}
use Rattle.book.specs.Book.{Tree, leaf, node, Forest, empty, and}
use Rattle.frames.specs.Database.{database}
use Rattle.frames.specs.Facts.{statement_of}
use Rattle.packed.specs.Lists.{Located}
use Rattle.tree.specs.Recorded.{Applications, Among, last, earlier, Within, SameUpTo, Denotes, hypothesis, application, DenotesAll, nothing, more, Recorded, start, further, Onward, done, then}

module _ {f : List ℕ} {kept kept' : Applications} (within : Within kept kept') where
  pub denotes-more : {word : ℕ} {tree : Tree} → Denotes f kept word tree → Denotes f kept' word tree
  denotes-more (hypothesis at is) = hypothesis at is
  denotes-more (application i is) = application (within _ _ i) is

  pub denotes-all-more : {entries : List ℕ} {from count : ℕ} {trees : Forest} → DenotesAll f kept entries from count trees → DenotesAll f kept' entries from count trees
  denotes-all-more (nothing e) = nothing e
  denotes-all-more (more e g d ds) = more e g (denotes-more d) (denotes-all-more ds)

-- one application more
pub within_more : {x : ℕ × Tree} {kept : Applications} → Within kept (x ∷ kept)
within_more from tree i = earlier i

module _ {f entries entries' : List ℕ} where
  all-kept : {kept : Applications} {from count n : ℕ} {trees : Forest} → SameUpTo entries entries' n → from + count ≤ n → DenotesAll f kept entries from count trees
      → DenotesAll f kept entries' from count trees
  all-kept same l (nothing e) = nothing e
  all-kept {from = from} same l (more {tree = tree} e g d ds) = more {tree = tree} e g (rw (same from (omega arith)) d) (all-kept same (omega arith) ds)

  pub recorded-kept : {kept : Applications} {n : ℕ} → SameUpTo entries entries' n → Recorded f entries kept n → Recorded f entries' kept n
  recorded-kept same (start e) = start e
  recorded-kept same (further {n = n} r at e ds is) =
      further (recorded-kept (λ i l. same i (omega arith)) r) at (same n (omega arith) ∙ e) (all-kept same (omega arith) ds) is

module _ {f entries : List ℕ} where
  -- read from the front
  ahead : {all kept : Applications} {end n : ℕ} → Recorded f entries kept n → Onward f entries all end kept n → (zeroth : ℕ) → zeroth ≡ 0 → Onward f entries all end [] zeroth
  ahead {n = n} (start e) onward zeroth g = let same : n ≡ zeroth = omega arith in rw same at onward
  ahead (further r at e ds is) onward zeroth g = ahead r (then at e ds is onward) zeroth g

  pub onward : {all : Applications} {end : ℕ} → Recorded f entries all end → Onward f entries all end [] 0
  onward r = ahead r (done refl) 0 refl

  -- an application's entries end before n
  pub recorded-below : {kept : Applications} {n from : ℕ} {tree : Tree} → Recorded f entries kept n → Among from tree kept → from < n
  recorded-below (start e) among = elim among [ ]
  recorded-below (further r at e ds is) (last g h) = omega arith
  recorded-below (further r at e ds is) (earlier i) = let l = recorded-below r i in omega arith
