-- A text that is measured before it is written: the capped size of a derivation tells whether the text fits (`fits-capped`), and where it does, the size is not
-- capped, so that it is the length of the text and one more (`fitting`).
use Rattle.std.proofs.Common.{Some, None}
use Prim.Native.Nat.{ℕ, suc, ◌+◌, ◌-◌, ◌≤◌, ◌<◌}
use mathlib.Core.Path.{◌≡◌, refl, ap, ◌∙◌}
use mathlib.Core.Bool.{true, false}
use mathlib.Core.List.{List, ◌++◌}
use native.Mathlib.Omega.{arith}
use lib.ListN.{length, drop}
use Rattle.book.specs.Book.{Tree, leaf, node}
use Rattle.frames.specs.Database.{Database, database}
use Rattle.frames.specs.Verdict.{laid}
use Rattle.frames.proofs.Chains.{pick_first, pick_second, at_most-yes, at_most-no}
use Rattle.postorder.specs.LongForm.{long_text, label_size, tree_size, text_length, fits, most_bytes}
use Rattle.postorder.proofs.Sizes.{text-length}
use Rattle.sizes.specs.Measured.{capped, size_at, Measures}
use Rattle.sizes.proofs.Caps.{fits-capped}
use Rattle.spell.specs.Text.{WritesText}
use Rattle.long_text.specs.Long.{answer_of, output_of, Tells, Long, WritesLong}

-- every derivation has a label, and that has a space
size-some : (db : Database) (tree : Tree) → 1 ≤ tree_size db tree
unfolding tree_size label_size
size-some db (leaf h) = omega arith
size-some db (node a trees) = omega arith

-- the size that the table tells of a derivation is that of its text and one more
pub text-told : (f entries : List ℕ) (nodes word : ℕ) (sizes sizes' : List ℕ) (size told : ℕ) → Measures f entries nodes sizes sizes' → size ≡ size_at f sizes' word
    → told ≡ size - 1 → Tells f entries nodes word (length sizes) told
unfolding capped
text-told f entries nodes word sizes sizes' size told measures is e = record {
  follows = λ tree good held room.
      let same : size ≡ capped (tree_size (database f) tree) = is ∙ measures.tells held.kept good held.recorded room word tree held.denotes in
      let some = size-some (database f) tree in
      omega arith;
}

most-few : (n : ℕ) → most_bytes n ≤ 65536
unfolding most_bytes
most-few n = omega arith

most-within : (n : ℕ) → most_bytes n ≤ n
unfolding most_bytes
most-within n = omega arith

module _ (db : Database) (tree : Tree) (told : ℕ) (is : suc told ≡ capped (tree_size db tree)) where
  -- a size that is small enough is not capped
  fitting : told ≤ 65536 → tree_size db tree ≡ told + 1
  unfolding capped
  fitting few = omega arith

  told-length : told ≤ 65536 → told ≡ length (long_text db tree)
  unfolding text_length
  told-length few = let whole = fitting few in omega (arith, text-length db tree)

  told-fits : (output : List ℕ) → told ≤ most_bytes (length output) → fits db tree (most_bytes (length output)) ≡ true
  told-fits output l = fits-capped db tree _ (most-few _) ∙ at_most-yes (omega arith)

  told-long : (output : List ℕ) → most_bytes (length output) < told → fits db tree (most_bytes (length output)) ≡ false
  told-long output l = fits-capped db tree _ (most-few _) ∙ at_most-no (omega arith)

  -- a text that is too long is not written
  long-untouched : (output : List ℕ) → most_bytes (length output) < told → Long db tree output output None
  unfolding answer_of output_of
  long-untouched output l = record { answered = pick_second _ (told-long output l) refl; written = pick_second _ (told-long output l) refl }

  -- a text that fits is
  long-whole : (output output' : List ℕ) → told ≤ most_bytes (length output) → output' ≡ long_text db tree ++ drop told output → Long db tree output output' (Some told)
  unfolding answer_of output_of laid
  long-whole output output' l e =
      let exactly = told-length (omega (arith, most-few (length output))) in
      record { answered = pick_first _ (told-fits output l) (ap Some exactly); written = pick_first _ (told-fits output l) (rw exactly at e) }

module _ (f entries : List ℕ) (nodes word : ℕ) (sizes pending output : List ℕ) (most told : ℕ) (is : most ≡ most_bytes (length output))
    (tells : Tells f entries nodes word (length sizes) told) where
  pub too_long : most < told → WritesLong f entries nodes word sizes pending output output None
  too_long l = record {
    sized = refl;
    untouched = λ e. refl;
    follows = λ tree good held room rest. long-untouched (database f) tree told (tells.follows tree good held room) output (omega arith);
  }

  pub whole : (output' : List ℕ) → told ≤ most → WritesText f entries word told pending output output'
      → WritesLong f entries nodes word sizes pending output output' (Some told)
  whole output' l writes = record {
    sized = writes.sized;
    untouched = λ e. let z : ◌≡◌ {A = ℕ} 0 1 = cc in absurd (omega arith);
    follows = λ tree good held room rest.
        let exact = tells.follows tree good held room in
        let few : told ≤ 65536 = omega (arith, most-few (length output)) in
        long-whole (database f) tree told exact output output' (omega arith)
        (writes.follows held.kept nodes tree good held.recorded held.denotes (fitting (database f) tree told exact few) few
        (omega (arith, most-within (length output))) rest);
  }
