-- Sums of sizes that are told apart only so far; and whether a text fits is told by such a size.
use Prim.Native.Nat.{ℕ, suc, ◌+◌, ◌≤◌, ◌<◌}
use mathlib.Core.Path.{◌≡◌, refl, sym, ◌∙◌}
use mathlib.Core.Bool.{Bool, true, false}
use native.Mathlib.Omega.{arith}
use Rattle.book.specs.Book.{Tree}
use Rattle.frames.specs.Logic.{at_most}
use Rattle.frames.specs.Database.{Database}
use Rattle.frames.proofs.Chains.{at_most-true, at_most-false, at_most-yes, at_most-no}
use Rattle.postorder.specs.LongForm.{tree_size, text_length, fits}
use Rattle.postorder.proofs.Sizes.{text-length, fits-exactly}
use Rattle.sizes.specs.Measured.{capped}

pub capped-few : (n : ℕ) → capped n ≤ 65538
unfolding capped
capped-few n = omega arith

-- below the cap a size is itself
pub capped_small : (n : ℕ) → n ≤ 65538 → capped n ≡ n
unfolding capped
capped_small n l = omega arith

pub capped-again : (n : ℕ) → capped (capped n) ≡ capped n
unfolding capped
capped-again n = omega arith

-- it is the same whether what is added is capped before or not
pub capped-sum : (a b : ℕ) → capped (capped a + capped b) ≡ capped (a + b)
unfolding capped
capped-sum a b = omega arith

pub capped_left : (a b : ℕ) → capped (capped a + b) ≡ capped (a + b)
unfolding capped
capped_left a b = omega arith

-- sums of what is the same when capped
pub capped-alike : (a b c d : ℕ) → capped a ≡ capped c → capped b ≡ capped d → capped (a + b) ≡ capped (c + d)
unfolding capped
capped-alike a b c d e g = omega arith

-- two tests that hold alike
alike : (a b c d : ℕ) → (a ≤ b → c ≤ d) → (b < a → d < c) → at_most a b ≡ at_most c d
alike a b c d holds fails = tried (at_most a b) refl
  where
    tried : (t : Bool) → at_most a b ≡ t → at_most a b ≡ at_most c d
    tried true e = e ∙ sym (at_most-yes (holds (at_most-true a b e)))
    tried false e = e ∙ sym (at_most-no (fails (at_most-false a b e)))

-- whether a text has at most m bytes, of 65,536 at most, is told by the capped size: it has one space more than the text
pub fits-capped : (db : Database) (tree : Tree) (m : ℕ) → m ≤ 65536 → fits db tree m ≡ at_most (capped (tree_size db tree)) (suc m)
unfolding text_length capped
fits-capped db tree m few =
    let size = text-length db tree in
    fits-exactly db tree m ∙ alike _ _ _ _ (λ l. omega arith) (λ l. omega arith)
