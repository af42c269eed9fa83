-- Where a sign stands in a token.
use Rattle.std.specs.Prelude.{ℕ, suc, ◌+◌, ◌-◌, List, [], ◌∷◌, length, take, drop}
use Rattle.std.proofs.Math.Option.{Option, none, some}
use Rattle.frames.specs.Logic.{below, equal, pick}

-- the position of the first of a sign; the length where there is none
unfoldable pub sign_at : ℕ → List ℕ → ℕ
sign_at sign [] = 0
sign_at sign (b ∷ bs) = pick (equal b sign) 0 (suc (sign_at sign bs))

-- a part, or nothing where it is absent
unfoldable pub part_or : Option (List ℕ) → List ℕ
part_or none = []
part_or (some part) = part

-- what stands before the sign at `sign`, after the other sign where that stands first; nothing where there is no such sign
unfoldable pub part_before : List ℕ → ℕ → ℕ → List ℕ
part_before token sign other =
    pick (equal sign (length token)) []
    (pick (below other sign) (take (sign - (other + 1)) (drop (other + 1) token)) (take sign token))
