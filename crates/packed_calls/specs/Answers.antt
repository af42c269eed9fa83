-- What the calls answer: a number, and what they leave in the pool. Where the ranges that were handed over are wrong a call is refused, and
-- the pool stays as it was.
use Rattle.std.specs.Prelude.{ℕ, ◌≡◌, Bool, true, false, List, length, get_or, drop, Some, None}
use Rattle.frames.specs.Logic.{at_most, pick, either, both, no, all, same}
use Rattle.frames.specs.Layout.{symbols_at}
use Rattle.frames.specs.Database.{Database}
use Rattle.packed.specs.Packing.{packed}
use Rattle.packed.specs.Pool.{range, grown, is_var, spelled, piece, joined, Adds, Untouched, Grown}

-- the number that says that the ranges are wrong: `REFUSED`
abbrev pub refused : ℕ
refused = 18446744073709551614

-- the number of an answer: how far the pool is used, or `FULL`
unfoldable pub number_of : Grown → ℕ
number_of (Some end) = end
number_of None = 18446744073709551615

-- the number of a truth value
unfoldable pub truth_of : Bool → ℕ
truth_of true = 1
truth_of false = 0

-- the symbols of the statement at `at`, its typecode left out: as they are
unfoldable pub spelling : List ℕ → List ℕ → ℕ → List ℕ
spelling f syms at = joined (spelled f syms) (drop 1 (symbols_at f at))

-- and with each variable replaced by its image
unfoldable pub substitution : List ℕ → List ℕ → ℕ → List ℕ → List ℕ → List ℕ → List ℕ
substitution f syms at froms tos pool = joined (piece f syms froms tos pool) (drop 1 (symbols_at f at))

-- symbol s, where it is a variable, has its image within the first `used` bytes of the pool
unfoldable pub image_within : List ℕ → List ℕ → List ℕ → List ℕ → ℕ → ℕ → Bool
image_within f syms froms tos used s =
    either (no (is_var f syms s)) (both (at_most (get_or froms s 0) (get_or tos s 0)) (at_most (get_or tos s 0) used))

-- each variable of the statement at `at` has its image there
unfoldable pub within : List ℕ → List ℕ → ℕ → List ℕ → List ℕ → ℕ → Bool
within f syms at froms tos used = all (image_within f syms froms tos used) (drop 1 (symbols_at f at))

-- the used part, and the limit after it, lie within the pool
unfoldable pub roomed : ℕ → ℕ → List ℕ → Bool
roomed used limit pool = both (at_most used limit) (at_most limit (length pool))

-- the range lies within so many bytes
unfoldable pub lies : ℕ → ℕ → ℕ → Bool
lies from to size = both (at_most from to) (at_most to size)

-- a call that adds bytes is answered. Where its ranges are right the bytes are added, and the number tells how far the pool is then used;
-- where they are wrong it is refused, and the pool stays as it was
pub record Answered (right : Bool) (bytes : List ℕ) (used limit : ℕ) (pool pool' : List ℕ) (answer : ℕ) : Type 0 where
  pub answers : answer ≡ pick right (number_of (grown (length bytes) used limit)) refused
  pub adds : right ≡ true → Adds bytes used limit pool pool' (grown (length bytes) used limit)
  pub leaves : right ≡ false → pool' ≡ pool

-- the answer of a call that compares a range of the pool with a text: where its ranges are right 1 for the same and 0 for not, where they are
-- wrong it is refused
unfoldable pub compared : Bool → ℕ → ℕ → List ℕ → List ℕ → ℕ
compared right from to pool text = pick right (truth_of (same (range from to pool) text)) refused

-- what an answer says of lists of symbols: where its ranges are right it is the number of a value of which this is said
pub record Says {A : Type 0} (right : Bool) (number : A → ℕ) (said : A → Type 0) (answer : ℕ) : Type 0 where
  pub says : right ≡ true → (x : A) × ((answer ≡ number x) × said x)

-- what is added is the packed text of every list that the range spells
pub record Copies (from to used limit : ℕ) (pool pool' : List ℕ) (answer : Grown) : Type 0 where
  pub adds : (db : Database) (xs : List ℕ) → range from to pool ≡ packed db xs → Adds (packed db xs) used limit pool pool' answer
  pub full : Untouched pool pool' answer
