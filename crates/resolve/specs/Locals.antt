-- The table of local labels, three words each: where its label begins and ends in the text, and its place.
use Rattle.std.specs.Prelude.{ℕ, ◌+◌, ◌*◌, ◌≡◌, List, [], ◌∷◌, ◌++◌, length, get_or, Option, Some, None}
use Rattle.std.proofs.Math.Option as math
use Rattle.frames.specs.Logic.{rows}
use Rattle.packed.specs.Pool.{range}
use Rattle.frames.specs.declared.numbers.PlaceNo.{PlaceNo}

-- the place of a local label, or none
abbrev pub FoundPlace : Type 0
FoundPlace = Option PlaceNo

-- the i-th local label and its place
unfoldable pub local_at : List ℕ → List ℕ → ℕ → List ℕ × ℕ
local_at text table i = (range (get_or table (3 * i) 0) (get_or table (3 * i + 1) 0) text, get_or table (3 * i + 2) 0)

-- the first n of them
unfoldable pub locals_of : List ℕ → List ℕ → ℕ → List (List ℕ × ℕ)
locals_of text table n = rows (local_at text table) 1 n 0

-- the place that is found, or none
unfoldable pub place_found : FoundPlace → math.Option ℕ
place_found (Some k) = math.some k.0
place_found None = math.none

-- one more local label stands in the table, whatever the text is
pub record AddsLocal (table : List ℕ) (count from to place : ℕ) (table' : List ℕ) : Type 0 where
  pub sized : length table' ≡ length table
  pub adds : (text : List ℕ) → locals_of text table' (count + 1) ≡ locals_of text table count ++ ((range from to text, place) ∷ [])
