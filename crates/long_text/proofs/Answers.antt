-- What a caller learns from the answer: `Some` means that the text fits and was written, `None` that it does not fit and nothing was.
use Rattle.std.proofs.Common.{Some, None}
use Prim.Native.Nat.{ℕ}
use mathlib.Core.Path.{◌≡◌, refl}
use mathlib.Core.Bool.{Bool, true, false}
use mathlib.Core.List.{List}
use native.Mathlib.Omega.{arith}
use lib.ListN.{length}
use Rattle.book.specs.Book.{Tree}
use Rattle.frames.specs.Logic.{pick}
use Rattle.frames.specs.Database.{Database}
use Rattle.frames.specs.Verdict.{laid}
use Rattle.postorder.specs.LongForm.{long_text, fits, most_bytes}
use Rattle.long_text.specs.Long.{answer_of, output_of, Long}

-- the text fits, and this is its length and the output
pub record Fits (db : Database) (tree : Tree) (output output' : List ℕ) (size : ℕ) : Type 0 where
  pub fitting : fits db tree (most_bytes (length output)) ≡ true
  pub sized : size ≡ length (long_text db tree)
  pub written : output' ≡ laid (long_text db tree) output

-- the text does not fit, and the output is as it was
pub record Exceeds (db : Database) (tree : Tree) (output output' : List ℕ) : Type 0 where
  pub exceeding : fits db tree (most_bytes (length output)) ≡ false
  pub untouched : output' ≡ output

module _ (db : Database) (tree : Tree) (output output' : List ℕ) where
  pub whole-fits : (size : ℕ) → Long db tree output output' (Some size) → Fits db tree output output' size
  unfolding answer_of output_of pick
  whole-fits size long = tried (fits db tree (most_bytes (length output))) refl long.answered long.written
    where
      tried : (t : Bool) → fits db tree (most_bytes (length output)) ≡ t → Some size ≡ pick t (Some (length (long_text db tree))) None
          → output' ≡ pick t (laid (long_text db tree) output) output → Fits db tree output output' size
      tried true e answered written = record { fitting = e; sized = cc; written = written }
      tried false e answered written = let z : ◌≡◌ {A = ℕ} 0 1 = cc in absurd (omega arith)

  pub too-long-exceeds : Long db tree output output' None → Exceeds db tree output output'
  unfolding answer_of output_of pick
  too-long-exceeds long = tried (fits db tree (most_bytes (length output))) refl long.answered long.written
    where
      tried : (t : Bool) → fits db tree (most_bytes (length output)) ≡ t → None ≡ pick t (Some (length (long_text db tree))) None
          → output' ≡ pick t (laid (long_text db tree) output) output → Exceeds db tree output output'
      tried true e answered written = let z : ◌≡◌ {A = ℕ} 0 1 = cc in absurd (omega arith)
      tried false e answered written = record { exceeding = e; untouched = written }
