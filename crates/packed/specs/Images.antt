-- The table of a substitution: the set of the image of a symbol, what a substituted expression's set holds, and what such a set stands
-- for: the numbers of the variables that occur in an expression.
use Rattle.std.specs.Prelude.{ℕ, suc, ◌+◌, ◌*◌, ◌≡◌, Bool, List, [], ◌∷◌, get_or, set}
use Rattle.frames.specs.Logic.{equal, pick, either, both, any}
use Rattle.frames.specs.Database.{Database}
use Rattle.bitset.specs.Sets.{member}
use Rattle.machine.specs.Ground.{is_variable}
use Rattle.packed.specs.Pool.{is_var}

-- how many words a set has: `Bitset::WORDS`
abbrev pub set_words : ℕ
set_words = 4

-- the four words of symbol s; 0 past the end
unfoldable pub set_of : List ℕ → ℕ → List ℕ
set_of sets s =
    get_or sets (set_words * s) 0 ∷ get_or sets (set_words * s + 1) 0 ∷ get_or sets (set_words * s + 2) 0 ∷ get_or sets (set_words * s + 3) 0 ∷ []

-- the table with these four words at symbol s; past the end nothing is stored
unfoldable pub store_set : List ℕ → ℕ → List ℕ → List ℕ
store_set sets s ws =
    set
    (set
    (set (set sets (set_words * s) (get_or ws 0 0)) (set_words * s + 1) (get_or ws 1 0))
    (set_words * s + 2)
    (get_or ws 2 0))
    (set_words * s + 3)
    (get_or ws 3 0)

-- symbol s is a variable, and n is a member of the set of its image
unfoldable pub has_member : List ℕ → List ℕ → List ℕ → ℕ → ℕ → Bool
has_member f syms sets n s = both (is_var f syms s) (member (set_of sets s) n)

-- exactly what was a member, or is one of the image of symbol s where that is a variable
pub record Included (f syms sets : List ℕ) (s : ℕ) (words words' : List ℕ) : Type 0 where
  pub exactly : (n : ℕ) → member words' n ≡ either (member words n) (has_member f syms sets n s)

-- exactly what is a member of the image of some variable among these symbols
pub record Gathered (f syms sets xs words : List ℕ) : Type 0 where
  pub exactly : (n : ℕ) → member words n ≡ any (has_member f syms sets n) xs

-- the number of a variable: its place in the list of the numbered ones, whose length stands for a variable that is not there
unfoldable pub number_in : List ℕ → ℕ → ℕ
number_in [] v = 0
number_in (w ∷ vs) v = pick (equal w v) 0 (suc (number_in vs v))

-- v is a variable with the number n
unfoldable pub is_number : Database → List ℕ → ℕ → ℕ → Bool
is_number db vs n v = both (is_variable db v) (equal (number_in vs v) n)

-- the members of ws are exactly the numbers of the variables that occur in xs
pub record Numbers (db : Database) (vs xs ws : List ℕ) : Type 0 where
  pub exactly : (n : ℕ) → member ws n ≡ any (is_number db vs n) xs
