-- How the bytes of a proof's text are read: dividers, the class of a letter, the three parts of a normal token.
use Rattle.std.specs.Prelude.{ℕ, ◌-◌, Bool, List, [], ◌∷◌, ◌++◌}
use Rattle.std.proofs.Math.Option.{Option, none, some}
use Rattle.frames.specs.Logic.{at_most, equal, pick, either, both, no, one_of}
use Rattle.frames.specs.Table.{name_byte}
use Rattle.machine.specs.declared.Letter.{Letter}
use Rattle.machine.specs.declared.Letter.TheVariants.{Last, Higher, Save, Incomplete, Ignored}

-- tokens are divided by space, tab, CR, LF, FF
unfoldable pub divider : ℕ → Bool
divider b = one_of (equal b 32 ∷ equal b 9 ∷ equal b 13 ∷ equal b 10 ∷ equal b 12 ∷ [])

-- 20: not a name byte or divider
unfoldable pub bad_byte : ℕ → Bool
bad_byte b = no (either (name_byte b) (divider b))

-- the class of a letter of a compressed proof: `A`..`T` are the last digits 0 to 19, `U`..`Y` the higher digits 1 to 5, `Z` saves, `?` is an
-- unknown step, every other byte is ignored
unfoldable pub letter : ℕ → Letter
letter b =
    pick (both (at_most 65 b) (at_most b 84)) (Last (b - 65))
    (pick (both (at_most 85 b) (at_most b 89)) (Higher (b - 84))
    (pick (equal b 90) Save
    (pick (equal b 63) Incomplete
    Ignored)))

-- the tokens `(`, `)` and `?`, and the signs `:` and `=`
abbrev pub opening : List ℕ
opening = 40 ∷ []

abbrev pub closing : List ℕ
closing = 41 ∷ []

abbrev pub question : List ℕ
question = 63 ∷ []

abbrev pub colon : ℕ
colon = 58

abbrev pub equals : ℕ
equals = 61

-- a text before and after the first of some sign in it
unfoldable pub prepend : ℕ → Option (List ℕ × List ℕ) → Option (List ℕ × List ℕ)
prepend b none = none
prepend b (some halves) = some (b ∷ halves.0, halves.1)

unfoldable pub cut : ℕ → List ℕ → Option (List ℕ × List ℕ)
cut sign [] = none
cut sign (b ∷ bs) = pick (equal b sign) (some ([], bs)) (prepend b (cut sign bs))

-- the three parts of a normal token
pub record Parts : Type 0 where
  pub local : Option (List ℕ)
  pub mark : Option (List ℕ)
  pub label : List ℕ

unfoldable pub parts : Option (List ℕ) → Option (List ℕ) → List ℕ → Parts
parts l m label = record { local = l; mark = m; label = label }

-- `hyp=label`, or the label alone
unfoldable pub mark_and_label : Option (List ℕ) → List ℕ → Option (List ℕ × List ℕ) → Parts
mark_and_label l token none = parts l none token
mark_and_label l token (some halves) = parts l (some halves.0) halves.1

-- `loc:label` and `loc:hyp=label`; but with `=` before `:` the label is all after `=`, and the local label is the part between
unfoldable pub local_first : List ℕ → List ℕ → Option (List ℕ × List ℕ) → Parts
local_first before after none = mark_and_label (some before) after (cut equals after)
local_first before after (some halves) =
    parts (some halves.1) (some halves.0) (halves.1 ++ (colon ∷ after))

unfoldable pub split_colon : List ℕ → Option (List ℕ × List ℕ) → Parts
split_colon token none = mark_and_label none token (cut equals token)
split_colon token (some halves) = local_first halves.0 halves.1 (cut equals halves.0)

-- a token split at its first `:` and its first `=`. (A known label has neither sign, so that it is its own label)
unfoldable pub split : List ℕ → Parts
split token = split_colon token (cut colon token)
