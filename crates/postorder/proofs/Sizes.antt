-- The length of the long form is known without the text, and the test that counts down says whether it fits.
use Prim.Native.Nat.{ℕ, suc, ◌+◌, ◌-◌, ◌<◌}
use mathlib.Core.Path.{◌≡◌, refl, sym}
use mathlib.Core.Bool.{Bool, true, false}
use mathlib.Core.Option.{Option, none, some}
use mathlib.Core.List.{List, [], ◌∷◌, ◌++◌}
use native.Mathlib.Omega.{arith}
use lib.ListN.{length, length-append}
use Rattle.book.specs.Book.{Tree, leaf, node, Forest, empty, and}
use Rattle.frames.specs.Logic.{at_most, pick}
use Rattle.frames.specs.Database.{Database}
use Rattle.frames.proofs.Chains.{at_most-true, at_most-false, at_most-yes, at_most-no}
use Rattle.machine.specs.Memory.{is_some}
use Rattle.machine.specs.Apply.{label_of}
use Rattle.postorder.specs.LongForm.{post_order, post_orders, following, joined, long_text, label_size, tree_size, forest_size, text_length, less_by, and_then, spare, spares, fits}

module _ (db : Database) where
  following-append : (xs ys : List ℕ) → length (following db (xs ++ ys)) ≡ length (following db xs) + length (following db ys)
  unfolding following
  following-append [] ys = omega arith
  following-append (x ∷ xs) ys =
      omega (arith, length-append (label_of db x) (following db (xs ++ ys)), length-append (label_of db x) (following db xs), following-append xs ys)

  one-following : (s : ℕ) → length (following db (s ∷ [])) ≡ label_size db s
  unfolding following label_size
  one-following s = omega (arith, length-append (label_of db s) [])

  mutual
    unfolding post_order tree_size following

    tree-following : (tree : Tree) → length (following db (post_order tree)) ≡ tree_size db tree
    tree-following (leaf h) = one-following h
    tree-following (node a trees) =
        omega (arith, following-append (post_orders trees) (a ∷ []), forest-following trees, one-following a)

    forest-following : (trees : Forest) → length (following db (post_orders trees)) ≡ forest_size db trees
    forest-following empty = refl
    forest-following (and tree trees) =
        omega (arith, following-append (post_order tree) (post_orders trees), tree-following tree, forest-following trees)

  joined_length : (ss : List ℕ) → length (joined db ss) ≡ length (following db ss) - 1
  unfolding joined following
  joined_length [] = refl
  joined_length (s ∷ ss) = omega arith

  -- the length is that of the text
  pub text-length : (tree : Tree) → length (long_text db tree) ≡ text_length db tree
  unfolding long_text text_length
  text-length tree = omega (arith, joined_length (post_order tree), tree-following tree)

-- what is left of n after taking away `size`
data Left (size n : ℕ) : Option ℕ → Type 0 where
  enough : {k : ℕ} → size + k ≡ n → Left size n (some k)
  short : n < size → Left size n none

less-left : (k n : ℕ) → Left k n (less_by k n)
unfolding less_by pick
less-left k n = tried (at_most k n) refl
  where
    tried : (t : Bool) → at_most k n ≡ t → Left k n (pick t (some (n - k)) none)
    tried true e =
        let l = at_most-true k n e in
        enough {k = n - k} (omega arith)
    tried false e = short (at_most-false k n e)

more_left : (a : ℕ) {b k n : ℕ} {o : Option ℕ} → a + k ≡ n → Left b k o → Left (a + b) n o
more_left a e (enough {k = j} f) = enough {k = j} (omega arith)
more_left a e (short l) = short (omega arith)

then-left : (a b : ℕ) {n : ℕ} {o : Option ℕ} {next : ℕ → Option ℕ} → Left a n o → ((k : ℕ) → Left b k (next k)) → Left (a + b) n (and_then o next)
unfolding and_then
then-left a b (enough {k} e) rest = more_left a e (rest k)
then-left a b (short l) rest = short (omega arith)

as-sum : {a b n : ℕ} {o : Option ℕ} → a ≡ b → Left a n o → Left b n o
as-sum e (enough {k} f) = enough {k = k} (omega arith)
as-sum e (short l) = short (omega arith)

module _ (db : Database) where
  mutual
    unfolding spare tree_size

    spare-left : (tree : Tree) (n : ℕ) → Left (tree_size db tree) n (spare db tree n)
    spare-left (leaf h) n = less-left (label_size db h) n
    spare-left (node a trees) n =
        as-sum {a = label_size db a + forest_size db trees} (omega arith)
        (then-left (label_size db a) _ (less-left (label_size db a) n) (λ k. spares-left trees k))

    spares-left : (trees : Forest) (n : ℕ) → Left (forest_size db trees) n (spares db trees n)
    spares-left empty n = enough {k = n} (omega arith)
    spares-left (and tree trees) n = then-left (tree_size db tree) _ (spare-left tree n) (λ k. spares-left trees k)

  -- the test says whether the text has at most n bytes
  pub fits-exactly : (tree : Tree) (n : ℕ) → fits db tree n ≡ at_most (length (long_text db tree)) n
  unfolding fits text_length is_some
  fits-exactly tree n = rw text-length (told (spare-left tree (suc n)))
    where
      told : {o : Option ℕ} → Left (tree_size db tree) (suc n) o → is_some o ≡ at_most (tree_size db tree - 1) n
      told (enough e) = sym (at_most-yes (omega arith))
      told (short l) = sym (at_most-no (omega arith))
