-- The pool: what writing into it leaves, and the texts that are read off the file, the pool and the table of images. A symbol is named by
-- its number, which counts into the table of offsets `syms`.
use Rattle.std.specs.Prelude.{ℕ, ◌+◌, ◌-◌, ◌≤◌, ◌≡◌, Bool, true, false, List, [], ◌∷◌, ◌++◌, length, get_or, take, drop, Option, Some, None}
use Rattle.frames.specs.Logic.{below, equal, pick}
use Rattle.frames.specs.Layout.{class_at, rest_at}
use Rattle.frames.specs.Facts.{◌∈◌}
use Rattle.packed.specs.Packing.{ended}

-- how far the pool is used then, or none where there is no room
abbrev pub Grown : Type 0
Grown = Option ℕ

-- a buffer with these bytes at `at`, and else as it was
unfoldable pub written : List ℕ → ℕ → List ℕ → List ℕ
written bytes at pool = take at pool ++ (bytes ++ drop (at + length bytes) pool)

-- the bytes of a buffer from `from` up to `to`
unfoldable pub range : ℕ → ℕ → List ℕ → List ℕ
range from to pool = take (to - from) (drop from pool)

-- the answer when so many bytes are to follow `used` ones: full exactly when the limit would be passed
unfoldable pub grown : ℕ → ℕ → ℕ → Grown
grown size used limit = pick (below limit (used + size)) None (Some (used + size))

-- bytes are added to the pool after the `used` ones. What was used stays as it was, and so does all past the limit; where the answer is not
-- `None` the pool holds exactly these bytes more. (After `None` the bytes from `used` up to the limit are of no meaning: no one reads them)
pub record Adds (bytes : List ℕ) (used limit : ℕ) (pool pool' : List ℕ) (answer : Grown) : Type 0 where
  pub answers : answer ≡ grown (length bytes) used limit
  pub sized : length pool' ≡ length pool
  pub kept : take used pool' ≡ take used pool
  pub past : drop limit pool' ≡ drop limit pool
  pub holds : below limit (used + length bytes) ≡ false → pool' ≡ written bytes used pool

-- where there is no room nothing was written. (This holds of one text; of several, those that found room may stand in the pool)
pub record Untouched (pool pool' : List ℕ) (answer : Grown) : Type 0 where
  pub left : answer ≡ None → pool' ≡ pool

-- symbol s is a variable
unfoldable pub is_var : List ℕ → List ℕ → ℕ → Bool
is_var f syms s = equal (class_at f (get_or syms s 0)) 1

-- the packed name of symbol s
unfoldable pub spelled : List ℕ → List ℕ → ℕ → List ℕ
spelled f syms s = ended (rest_at f (get_or syms s 0))

-- the image of variable s: a range of the pool
unfoldable pub image : List ℕ → List ℕ → List ℕ → ℕ → List ℕ
image froms tos pool s = range (get_or froms s 0) (get_or tos s 0) pool

-- what stands for symbol s: the image of a variable, the name of a constant
unfoldable pub piece : List ℕ → List ℕ → List ℕ → List ℕ → List ℕ → ℕ → List ℕ
piece f syms froms tos pool s = pick (is_var f syms s) (image froms tos pool s) (spelled f syms s)

-- the pieces one after another
unfoldable pub joined : (ℕ → List ℕ) → List ℕ → List ℕ
joined text [] = []
joined text (s ∷ ss) = text s ++ joined text ss

-- each variable among these symbols has an image within the used part of the pool
pub record Imaged (f syms froms tos : List ℕ) (used : ℕ) (xs : List ℕ) : Type 0 where
  pub rises : (s : ℕ) → s ∈ xs → is_var f syms s ≡ true → get_or froms s 0 ≤ get_or tos s 0
  pub within : (s : ℕ) → s ∈ xs → is_var f syms s ≡ true → get_or tos s 0 ≤ used
