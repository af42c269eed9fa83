-- The table that one pass makes has the sizes of the recorded derivations: application after application, each one's words stand for derivations that were
-- measured before it (`Sized`).
use Prim.Native.Nat.{ℕ, zero, suc, ◌+◌, ◌-◌, ◌*◌, ◌/◌, ◌%◌, ◌≤◌, ◌<◌, min}
use mathlib.Core.Path.{◌≡◌, refl, sym, ◌∙◌, ap}
use mathlib.Core.List.{List, [], ◌∷◌}
use native.Mathlib.Numerals.{add-one}
use native.Mathlib.Omega.{arith}
use lib.ListN.{length, get_or, set, length-set}
use lib.Seq.{get_or-set_same, get_or-set_other}
use Rattle.book.specs.Book.{Tree, node, Forest}
use Rattle.frames.specs.Layout.{next_at}
use Rattle.frames.specs.Database.{Statement, database, statement_at, GoodFile}
use Rattle.frames.specs.Facts.{statement_of}
use Rattle.frames.proofs.Chains.{pick_first, pick_second, below-yes, below-no, equal-yes, equal-no}
use Rattle.facts.proofs.GoodFacts.{good-file-facts}
use Rattle.machine.specs.Apply.{label_of}
use Rattle.postorder.specs.LongForm.{label_size, tree_size, forest_size}
use Rattle.packed.specs.Lists.{Located}
use Rattle.resolve.proofs.Filing.{located-statement}
use Rattle.tree.specs.Recorded.{Applications, Among, last, earlier, Denotes, hypothesis, application, DenotesAll, nothing, more, Recorded, Onward, done, then}
use Rattle.tree.proofs.Recording.{onward}
use Rattle.sizes.specs.Measured.{capped, offset_of, label_size_at, size_at, words_size, words_at, application_size, measured_from, measured, Measures}
use Rattle.sizes.proofs.Caps.{capped-again, capped-alike}

-- the applications that end before n are in the table, each with its size
pub record Sized (f : List ℕ) (kept : Applications) (n : ℕ) (sizes : List ℕ) : Type 0 where
  pub before : (from : ℕ) (tree : Tree) → Among from tree kept → from < n
  pub size : (from : ℕ) (tree : Tree) → Among from tree kept → get_or sizes from 0 ≡ capped (tree_size (database f) tree)

-- the offset of a statement of a good file has 32 bits
located-small : {f : List ℕ} {a at : ℕ} → GoodFile f → Located f a at → at < 4294967295
unfolding next_at
located-small {f} {a} good loc =
    let facts = good-file-facts f good in
    let within = facts.statement_within a loc.there in
    let few = facts.size in
    let is = loc.offset in
    omega arith

module _ {f : List ℕ} {a at : ℕ} (good : GoodFile f) (loc : Located f a at) where
  -- what is read at the offset of a statement is that statement
  located-read : statement_at f (offset_of at) ≡ statement_of (database f) a
  unfolding offset_of
  located-read =
      let small = located-small good loc in
      let same : min at 4294967295 ≡ at = omega arith in
      rw same (sym (located-statement loc))

  located-label : label_size_at f at ≡ capped (label_size (database f) a)
  unfolding label_size_at label_size label_of
  located-label = rw (located-read, add-one) refl

-- a word's kind and number
even-word : (word at : ℕ) → word ≡ 2 * at → (word % 2 ≡ 0) × (word / 2 ≡ at)
even-word word at e = (omega arith, omega arith)

odd-word : (word from : ℕ) → word ≡ 2 * from + 1 → (word % 2 ≡ 1) × (word / 2 ≡ from)
odd-word word from e = (omega arith, omega arith)

-- a word's size is that of the derivation that it stands for
module _ {f : List ℕ} {kept : Applications} {n : ℕ} {sizes : List ℕ} (good : GoodFile f) (so_far : Sized f kept n sizes) where
  pub sized-word : {word : ℕ} {tree : Tree} → Denotes f kept word tree → size_at f sizes word ≡ capped (tree_size (database f) tree)
  unfolding size_at tree_size
  sized-word {word} (hypothesis {at = at} loc is) =
      let parts = even-word word at is in
      sym (pick_first _ (equal-yes parts.0) (sym (ap (label_size_at f) parts.1 ∙ located-label good loc)))
  sized-word {word} {tree} (application {from = from} there is) =
      let parts = odd-word word from is in
      let odd = parts.0 in
      sym (pick_second _ (equal-no (λ z. omega arith)) (sym (ap (λ (i : ℕ). get_or sizes i 0) parts.1 ∙ so_far.size from tree there)))

  -- words one after another
  sized-words : {entries : List ℕ} {from count : ℕ} {trees : Forest} → DenotesAll f kept entries from count trees
      → capped (words_size f entries sizes count from) ≡ capped (forest_size (database f) trees)
  unfolding words_size tree_size
  sized-words {entries} {from} {count} (nothing e) = rw e refl
  sized-words {entries} {from} {count = many} (more {next = next} {count = count} {tree = tree} {trees = trees} e g d ds) =
      let counted : many ≡ suc count = omega arith in
      let rest = sized-words ds in
      let head = sized-word d in
      rw (counted, ← e) (capped-alike (size_at f sizes (get_or entries from 0)) (words_size f entries sizes count next) (tree_size (database f) tree) (forest_size (database f) trees)
      (ap capped head ∙ capped-again _) rest)

  -- an application
  module _ (entries : List ℕ) (m : ℕ) {a at : ℕ} (loc : Located f a at) (is : get_or entries m 0 ≡ at) where
    located-words : words_at f entries m ≡ length (statement_of (database f) a).hyps
    unfolding words_at
    located-words = ap (λ (o : ℕ). length (statement_at f (offset_of o)).hyps) is ∙ ap (λ (st : Statement). length st.hyps) (located-read good loc)

    sized-application : {trees : Forest} → DenotesAll f kept entries (m + 1) (length (statement_of (database f) a).hyps) trees
        → application_size f entries sizes m ≡ capped (tree_size (database f) (node a trees))
    unfolding application_size tree_size
    sized-application {trees} ds =
        let label : label_size_at f (get_or entries m 0) ≡ capped (label_size (database f) a) = ap (label_size_at f) is ∙ located-label good loc in
        let words : capped (words_size f entries sizes (words_at f entries m) (m + 1)) ≡ capped (forest_size (database f) trees) = rw located-words (sized-words ds) in
        let turned : forest_size (database f) trees + label_size (database f) a ≡ label_size (database f) a + forest_size (database f) trees = omega arith in
        rw turned (capped-alike _ _ (label_size (database f) a) (forest_size (database f) trees) (ap capped label ∙ capped-again _) words)

  -- one application more in the table
  sized-more : (m next v : ℕ) (tree : Tree) → n ≤ m → m < next → m < length sizes → v ≡ capped (tree_size (database f) tree) → Sized f ((m, tree) ∷ kept) next (set sizes m v)
  sized-more m next v tree low rises room is =
      record { before = λ from t i. told-before from t i; size = λ from t i. told-size from t i }
    where
      told-before : (from : ℕ) (t : Tree) → Among from t ((m, tree) ∷ kept) → from < next
      told-before from t (last e g) = omega arith
      told-before from t (earlier i) = let l = so_far.before from t i in omega arith

      told-size : (from : ℕ) (t : Tree) → Among from t ((m, tree) ∷ kept) → get_or (set sizes m v) from 0 ≡ capped (tree_size (database f) t)
      told-size from t (last e g) = rw (← e, ← g) (get_or-set_same sizes m v 0 room ∙ is)
      told-size from t (earlier i) =
          let l = so_far.before from t i in
          get_or-set_other sizes m from v 0 (λ e. omega arith) ∙ so_far.size from t i

-- what is recorded ends where it ends
onward-most : {f entries : List ℕ} {all : Applications} {end : ℕ} {kept : Applications} {n : ℕ} → Onward f entries all end kept n → n ≤ end
onward-most (done e) = omega arith
onward-most (then loc is ds e rest) = let l = onward-most rest in omega arith

-- the pass ends at n, and before n it measures an application and moves on behind it
module _ (f entries : List ℕ) (n : ℕ) where
  pub measured-end : (turns at : ℕ) (sizes : List ℕ) → n ≤ at → measured_from f entries n turns at sizes ≡ sizes
  unfolding measured_from
  measured-end zero at sizes past = refl
  measured-end (suc turns) at sizes past = sym (pick_second _ (below-no past) refl)

  pub measured-turn : (turns at : ℕ) (sizes : List ℕ) → at < n → n ≤ at + turns
      → measured_from f entries n turns at sizes ≡ measured_from f entries n (turns - 1) (at + 1 + words_at f entries at) (set sizes at (application_size f entries sizes at))
  unfolding measured_from
  measured-turn zero at sizes inside enough = absurd (omega arith)
  measured-turn (suc turns) at sizes inside enough =
      let less : suc turns - 1 ≡ turns = omega arith in
      rw less (sym (pick_first _ (below-yes inside) refl))

-- the pass from n on measures what is recorded from n on
measured-onward : {f entries : List ℕ} {all : Applications} {end : ℕ} {kept : Applications} {n : ℕ} (turns : ℕ) (sizes : List ℕ) → GoodFile f → Onward f entries all end kept n
    → end ≤ length sizes → end ≤ n + turns → Sized f kept n sizes → Sized f all end (measured_from f entries end turns n sizes)
measured-onward {f} {entries} {end = end} {n} turns sizes good (done e) room enough so_far = rw (measured-end f entries end turns n sizes (omega arith), ← e) so_far
measured-onward {f} {entries} {all} {end} {kept} {n} turns sizes good (then {next = next} {a = a} {trees = trees} loc is ds e rest) room enough so_far =
    let most = onward-most rest in
    let size = application_size f entries sizes n in
    let moved : n + 1 + words_at f entries n ≡ next = ap (λ (k : ℕ). n + 1 + k) (located-words good so_far entries n loc is) ∙ sym e in
    let now = sized-more good so_far n next size (node a trees) (omega arith) (omega arith) (omega arith) (sized-application good so_far entries n loc is ds) in
    rw (measured-turn f entries end turns n sizes (omega arith) enough, moved)
    (measured-onward (turns - 1) (set sizes n size) good rest (omega (arith, length-set sizes n size)) (omega arith) now)

among-some : {from : ℕ} {tree : Tree} {kept : Applications} → Among from tree kept → 0 < length kept
among-some (last e g) = omega arith
among-some (earlier i) = omega arith

none-among : {from : ℕ} {tree : Tree} → Among from tree [] → ⊥
none-among i = let some = among-some i in omega arith

-- the whole pass
module _ (f entries : List ℕ) (n : ℕ) (sizes : List ℕ) where
  measured-sized : (kept : Applications) → GoodFile f → Recorded f entries kept n → n ≤ length sizes → Sized f kept n (measured f entries n sizes)
  unfolding measured
  measured-sized kept good recorded room =
      let all : min n (length sizes) ≡ n = omega arith in
      rw all (measured-onward n sizes good (onward recorded) room (omega arith) (record { before = λ from t i. absurd (none-among i); size = λ from t i. absurd (none-among i) }))

  measured-is : (end : ℕ) (sizes' : List ℕ) → end ≡ min n (length sizes) → sizes' ≡ measured_from f entries end end 0 sizes → sizes' ≡ measured f entries n sizes
  unfolding measured
  measured-is end sizes' least is = rw least at is

  pub measures : (end : ℕ) (sizes' : List ℕ) → end ≡ min n (length sizes) → length sizes' ≡ length sizes → sizes' ≡ measured_from f entries end end 0 sizes
      → Measures f entries n sizes sizes'
  measures end sizes' least long is =
      let whole = measured-is end sizes' least is in
      record {
        is = whole;
        sized = long;
        tells = λ kept good recorded room word tree d. sized-word {n = n} good (rw whole (measured-sized kept good recorded room)) d;
      }
