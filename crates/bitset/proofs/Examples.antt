-- The definitions at work on small sets: what antt computes of them is what a reader expects.
use mathlib.Core.Path.{◌≡◌, refl}
use mathlib.Core.List.{[], ◌∷◌}
use Rattle.bitset.specs.Sets.{bit, member, size, empty, insert, union, keep, members_from, members}

-- two members of two words, listed upwards whatever the order of adding
two-words : members (insert (insert (empty 2) 64) 3) ≡ 3 ∷ 64 ∷ []
unfolding members members_from keep member bit size insert empty
two-words = refl

-- a number past the last word is refused
refused : insert (insert (empty 2) 127) 128 ≡ insert (empty 2) 127
unfolding insert empty
refused = refl

-- a member of both sets stands in their union once
joined : members (union (insert (insert (empty 1) 5) 63) (insert (insert (empty 1) 0) 63)) ≡ 0 ∷ 5 ∷ 63 ∷ []
unfolding members members_from keep member bit size insert empty union
joined = refl
