-- What an iterator over a set has still to give, and how a step takes it apart.
use Rattle.std.specs.Prelude.{List, [], ◌∷◌, ℕ, ◌-◌, Option, None, Some}
use Rattle.bitset.specs.Sets.{size, members_from}
use Rattle.bitset.specs.declared.BitsetIter.{BitsetIter}

-- the members that the iterator has still to give, rising
unfoldable pub left : BitsetIter → List ℕ
left it = members_from it.set.words (size it.set.words - it.at) it.at

-- the first of a list, if there is one
unfoldable pub first_of : List ℕ → Option ℕ
first_of [] = None
first_of (n ∷ ns) = Some n

-- what follows the first of a list
unfoldable pub rest_of : List ℕ → List ℕ
rest_of [] = []
rest_of (n ∷ ns) = ns
