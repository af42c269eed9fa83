-- One turn keeps what remains: the label on top goes right before what is written, and the words below it are pending in its place. From this follow where it begins
-- and where it ends.
use Prim.Native.Nat.{ℕ, suc, ◌+◌, ◌≤◌}
use mathlib.Core.Path.{◌≡◌, refl, sym, ◌∙◌, ap}
use mathlib.Core.List.{List, [], ◌∷◌, ◌++◌, append_assoc}
use native.Mathlib.Numerals.{add-one}
use native.Mathlib.Omega.{arith}
use lib.ListN.{length, get_or, drop, set, length-append}
use lib.Seq.{get_or-set_same}
use Rattle.book.specs.Book.{Tree, leaf, node}
use Rattle.frames.specs.Database.{Statement, Database, database, statement_at, GoodFile}
use Rattle.frames.proofs.Chains.{below-yes, at_most-yes, pick_first}
use Rattle.machine.specs.Apply.{label_of}
use Rattle.postorder.specs.LongForm.{post_order, post_orders, following, long_text, tree_size, text_length}
use Rattle.postorder.proofs.Sizes.{text-length}
use Rattle.packed.specs.Pool.{written}
use Rattle.packed.specs.Lists.{Located}
use Rattle.resolve.proofs.Filing.{located-statement}
use Rattle.tree.specs.Recorded.{Applications, Denotes, Recorded}
use Rattle.spell.specs.Words.{offset_of, words_below, PushesWords}
use Rattle.spell.specs.Text.{Puts, none, top, Remains}
use Rattle.spell.proofs.Pushing.{popped, pending-pushed, pending-few}
use Rattle.spell.proofs.Spacing.{following-last, following-joined, drop-written}

-- where there is room, the words are put
pushes_all : {words : List ℕ} {depth : ℕ} {table table' : List ℕ} {depth' : ℕ} → PushesWords words depth table table' depth' → depth + length words ≤ length table
    → (table' ≡ written words depth table) × (depth' ≡ depth + length words)
pushes_all {words} {depth} {table} p l =
    let fits = at_most-yes l in
    (p.table ∙ sym (pick_first table fits refl), p.count ∙ sym (pick_first depth fits refl))

-- where it fits, the label stands behind a space, and what was written stands behind it
puts-all : {label : List ℕ} {end : ℕ} {out out' : List ℕ} {from : ℕ} → Puts label end out out' from → end ≡ from + suc (length label) → end ≤ length out + 1
    → drop from (32 ∷ out') ≡ (32 ∷ label) ++ drop end (32 ∷ out)
puts-all {label} {end} {out} {out'} {from} p e l =
    let stands : 32 ∷ out' ≡ written (32 ∷ label) from (32 ∷ out) = p.stands ∙ sym (pick_first (32 ∷ out) (below-yes (omega arith)) refl) in
    ap (drop from) stands ∙ drop-written (32 ∷ label) from (32 ∷ out) (omega arith) ∙ ap (λ (k : ℕ). (32 ∷ label) ++ drop k (32 ∷ out)) (sym e)

-- the label that is read
label-read : {f : List ℕ} {a at : ℕ} → Located f a at → (statement_at f at).label ≡ label_of (database f) a
unfolding label_of
label-read loc = ap (λ (st : Statement). st.label) (sym (located-statement loc))

module _ {f entries : List ℕ} (good : GoodFile f) {kept : Applications} {n : ℕ} (r : Recorded f entries kept n) where
  pub turned : {table table' : List ℕ} {left depth depth' end end' : ℕ} {out out' whole : List ℕ} → Remains f kept table depth end out whole
      → depth ≡ left + 1 → depth ≤ length table → end ≤ length out + 1 → end ≤ 65537 → 32768 ≤ length table
      → Puts (statement_at f (offset_of entries (get_or table left 0))).label end out out' end' → PushesWords (words_below f entries (get_or table left 0)) left table table' depth'
      → Remains f kept table' depth' end' out' whole
  turned {table} {left = left} {end = end} {end' = end'} {out = out} {out' = out'} remains d l fits small large puts pushes =
      let db = database f in
      let p = popped good r remains.pending d in
      let words = words_below f entries (get_or table left 0) in
      let order = p.front ++ post_orders p.trees in
      let label = label_of db p.root in
      let all : following db remains.order ≡ following db order ++ (32 ∷ label) = ap (following db) p.is ∙ following-last db order p.root in
      let size : length (following db order) + suc (length label) ≡ end = sym (length-append (following db order) (32 ∷ label)) ∙ ap length (sym all) ∙ remains.room in
      let read = label-read p.located in
      let puts' : Puts label end out out' end' = rw read at puts in
      let room : length (following db order) ≡ end' = omega (arith, puts'.begins) in
      let pending = pending-pushed p.rest (omega arith) p.denoted in
      let few = pending-few good r pending in
      let put = pushes_all pushes (omega arith) in
      let stands = puts-all puts' (omega arith) fits in
      record {
        order = order;
        pending = rw (put.0, put.1) pending;
        room = room;
        is =
            ap (λ (t : List ℕ). following db order ++ t) stands
            ∙ sym (append_assoc (following db order) (32 ∷ label) (drop end (32 ∷ out)))
            ∙ ap (λ (t : List ℕ). t ++ drop end (32 ∷ out)) (sym all)
            ∙ remains.is;
      }

-- nothing remains: the whole is written
pub remains-nothing : {f : List ℕ} {kept : Applications} {table : List ℕ} {depth end : ℕ} {out whole : List ℕ} → Remains f kept table depth end out whole
    → end ≡ 0 → 32 ∷ out ≡ whole
remains-nothing {f} {out = out} remains e = rw (no_bytes (following (database f) remains.order) (remains.room ∙ e), e) at remains.is
  where
    no_bytes : (xs : List ℕ) → length xs ≡ 0 → xs ≡ []
    no_bytes [] z = refl
    no_bytes (x ∷ xs) z = absurd (omega arith)

-- the text of a derivation with a space before it
text-following : (db : Database) (tree : Tree) → following db (post_order tree) ≡ 32 ∷ long_text db tree
unfolding post_order long_text
text-following db (leaf h) = following-joined db [] h
text-following db (node a trees) = following-joined db (post_orders trees) a

-- the whole of one derivation remains
pub remains-one : {f : List ℕ} {kept : Applications} {word : ℕ} (table : List ℕ) (size : ℕ) (out : List ℕ) {tree : Tree} → Denotes f kept word tree
    → tree_size (database f) tree ≡ size + 1 → 1 ≤ length table
    → Remains f kept (set table 0 word) 1 (size + 1) out (32 ∷ (long_text (database f) tree ++ drop size out))
unfolding text_length
remains-one {f} {kept} {word} table size out {tree} d sized l =
    let db = database f in
    let text = text-following db tree in
    let long = text-length db tree in
    let there = get_or-set_same table 0 word 0 l in
    record {
      order = post_order tree;
      pending = top {left = 0} {tree = tree} {order = []} (none refl) refl (rw there d) refl;
      room = ap length text ∙ omega arith;
      is = rw (add-one size) (ap (λ (t : List ℕ). t ++ drop size out) text);
    }
