-- A word that denotes a derivation names its root, and the words behind it denote the derivations below the root.
use Prim.Native.Nat.{ℕ, ◌+◌, ◌*◌, ◌/◌, ◌%◌, ◌<◌}
use mathlib.Core.Path.{◌≡◌, refl, sym, ap}
use mathlib.Core.List.{List, [], ◌∷◌, ◌++◌}
use native.Mathlib.Nat.{zero-add, add-zero}
use native.Mathlib.Omega.{arith}
use lib.ListN.{length, get_or}
use Rattle.book.specs.Book.{Tree, leaf, node, Forest, empty}
use Rattle.frames.specs.Logic.{equal, pick}
use Rattle.frames.specs.Layout.{next_at}
use Rattle.frames.specs.Database.{Statement, database, statement_at, GoodFile}
use Rattle.frames.specs.Facts.{statement_of}
use Rattle.frames.proofs.Chains.{below-yes, equal-yes, equal-no, pick_first, pick_second}
use Rattle.frames.proofs.Loops.{length-rows, here-rows, here-get_or}
use Rattle.facts.proofs.GoodFacts.{good-file-facts}
use Rattle.postorder.specs.LongForm.{post_order, post_orders}
use Rattle.packed.specs.Lists.{Located}
use Rattle.resolve.proofs.Filing.{located-statement}
use Rattle.tree.specs.Recorded.{start, Applications, Among, last, earlier, Within, Denotes, hypothesis, application, DenotesAll, nothing, more, Recorded, further}
use Rattle.tree.proofs.Recording.{denotes-all-more}
use Rattle.spell.specs.Words.{as_offset, offset_of, entries_from, words_below}

-- the root of a derivation and what is below it, as the word has them
pub record Opened (f : List ℕ) (kept : Applications) (entries : List ℕ) (word : ℕ) (tree : Tree) : Type 0 where
  pub root : ℕ
  pub trees : Forest
  pub located : Located f root (offset_of entries word)
  pub denoted : DenotesAll f kept (words_below f entries word) 0 (length (words_below f entries word)) trees
  pub order : post_order tree ≡ post_orders trees ++ (root ∷ [])

-- an offset of a good file is no greater than one may be
located-small : {f : List ℕ} {a at : ℕ} → GoodFile f → Located f a at → as_offset at ≡ at
unfolding next_at as_offset
located-small {f} {a} {at} good loc =
    let facts = good-file-facts f good in
    let within = facts.statement_within a loc.there in
    let size = facts.size in
    let small : at < 4294967296 = omega (arith, loc.offset) in
    sym (pick_first 0 (below-yes small) refl)

-- the entries are what they were read from
pub entries-length : (entries : List ℕ) (from n : ℕ) → length (entries_from entries from n) ≡ n
unfolding entries_from
entries-length entries from n = length-rows _ 1 n from

pub entries_at : (entries : List ℕ) (from n i : ℕ) → i < n → get_or (entries_from entries from n) i 0 ≡ get_or entries (from + i) 0
unfolding entries_from
entries_at entries from n i l =
    let e : from + 1 * i ≡ from + i = omega arith in
    sym (rw e at (here-get_or (here-rows (λ j. get_or entries j 0) 1 n from i l) 0))

-- the same words elsewhere denote the same
module _ {f : List ℕ} {kept : Applications} {xs ys : List ℕ} where
  denoted-elsewhere : {a n : ℕ} {trees : Forest} (b : ℕ) → ((i : ℕ) → i < n → get_or ys (b + i) 0 ≡ get_or xs (a + i) 0) → DenotesAll f kept xs a n trees
      → DenotesAll f kept ys b n trees
  denoted-elsewhere b same (nothing e) = nothing e
  denoted-elsewhere {a} b same (more {next = next} {tree = tree} e g d ds) =
      let first : get_or ys b 0 ≡ get_or xs a 0 = rw (add-zero b, add-zero a) at (same 0 (omega arith)) in
      more {next = b + 1} {tree = tree} refl g (rw first d)
      (denoted-elsewhere (b + 1)
      (λ i l.
      let left : b + 1 + i ≡ b + (i + 1) = omega arith in
      let right : next + i ≡ a + (i + 1) = omega arith in
      rw (left, right) (same (i + 1) (omega arith)))
      ds)

module _ {f : List ℕ} (good : GoodFile f) (entries : List ℕ) where
  -- the statement that an even word names, and that an odd word names
  even-offset : {word h at : ℕ} → Located f h at → word ≡ 2 * at → offset_of entries word ≡ at
  unfolding offset_of
  even-offset {word} {h} {at} loc is =
      let half : word / 2 ≡ at = omega arith in
      let e : at ≡ pick (equal (word % 2) 0) (word / 2) (get_or entries (word / 2) 0) = pick_first _ (equal-yes (omega arith)) (sym half) in
      rw (← e) (located-small good loc)

  odd-offset : {word a at : ℕ} (from : ℕ) → Located f a at → word ≡ 2 * from + 1 → get_or entries from 0 ≡ at → offset_of entries word ≡ at
  unfolding offset_of
  odd-offset {word} {a} {at} from loc is there =
      let half : word / 2 ≡ from = omega arith in
      let e : at ≡ pick (equal (word % 2) 0) (word / 2) (get_or entries (word / 2) 0) =
      pick_second _ (equal-no (λ q. omega arith)) (rw half (sym there)) in
      rw (← e) (located-small good loc)

module _ {f entries : List ℕ} (good : GoodFile f) where
  -- an even word
  leaf-opened : {kept : Applications} {word h at : ℕ} → Located f h at → word ≡ 2 * at → Opened f kept entries word (leaf h)
  unfolding post_order post_orders words_below
  leaf-opened {word} {h} {at} loc is =
      let none : [] ≡ words_below f entries word = pick_first _ (equal-yes (omega arith)) refl in
      record {
        root = h;
        trees = empty;
        located = rw (even-offset good entries loc is) loc;
        denoted = rw (← none) (nothing refl);
        order = refl;
      }

  -- an odd word
  node-opened : {kept : Applications} {word a at : ℕ} {trees : Forest} (from : ℕ) → word ≡ 2 * from + 1 → Located f a at → get_or entries from 0 ≡ at
      → DenotesAll f kept entries (from + 1) (length (statement_of (database f) a).hyps) trees → Opened f kept entries word (node a trees)
  unfolding post_order post_orders words_below
  node-opened {word} {a} {at} {trees} from is loc there ds =
      let o = odd-offset good entries from loc is there in
      let half : word / 2 ≡ from = omega arith in
      let n : ℕ = length (statement_of (database f) a).hyps in
      let h : length (statement_at f (offset_of entries word)).hyps ≡ n =
      rw o (ap (λ (st : Statement). length st.hyps) (sym (located-statement loc))) in
      let words : entries_from entries (from + 1) n ≡ words_below f entries word =
      pick_second _ (equal-no (λ q. omega arith)) (rw (half, h) refl) in
      record {
        root = a;
        trees = trees;
        located = rw o loc;
        denoted =
            rw (← words, entries-length)
            (denoted-elsewhere 0 (λ i l. rw zero-add (entries_at entries (from + 1) n i l)) ds);
        order = refl;
      }

  -- an application that is recorded
  application-opened : {kept all : Applications} {n word : ℕ} {tree : Tree} (from : ℕ) → word ≡ 2 * from + 1 → Within kept all → Recorded f entries kept n → Among from tree kept
      → Opened f all entries word tree
  application-opened from is within (start e) among = elim among [ ]
  application-opened {word} from is within (further {n = n} r loc there ds _) (last g h) =
      rw h at (node-opened {word = word} n (omega arith) loc there (denotes-all-more (λ x t i. within x t (earlier i)) ds))
  application-opened from is within (further r loc there ds _) (earlier i) = application-opened from is (λ x t j. within x t (earlier j)) r i

  -- every word that denotes a derivation
  pub word-opened : {kept : Applications} {n word : ℕ} {tree : Tree} → Recorded f entries kept n → Denotes f kept word tree → Opened f kept entries word tree
  word-opened r (hypothesis loc is) = leaf-opened loc is
  word-opened r (application {from = from} i is) = application-opened from is (λ _ _ j. j) r i
