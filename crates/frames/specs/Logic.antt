-- Tests and lists: the few words in which the definitions of this crate are written.
use Rattle.std.specs.Prelude.{ℕ, zero, suc, ◌+◌, Bool, true, false, List, [], ◌∷◌, ltb, leb, eqb}

-- the tests on numbers
unfoldable pub below : ℕ → ℕ → Bool
below a b = ltb a b

unfoldable pub at_most : ℕ → ℕ → Bool
at_most a b = leb a b

unfoldable pub equal : ℕ → ℕ → Bool
equal a b = eqb a b

-- the first where the test holds, else the second
unfoldable pub pick : {A : Type 0} → Bool → A → A → A
pick true a b = a
pick false a b = b

-- one of the two tests holds
unfoldable pub either : Bool → Bool → Bool
either true b = true
either false b = b

-- both tests hold
unfoldable pub both : Bool → Bool → Bool
both true b = b
both false b = false

-- the test does not hold
unfoldable pub no : Bool → Bool
no true = false
no false = true

-- some test of the list holds
unfoldable pub one_of : List Bool → Bool
one_of [] = false
one_of (t ∷ ts) = either t (one_of ts)

-- every member of the list passes the test
unfoldable pub all : {A : Type 0} → (A → Bool) → List A → Bool
all p [] = true
all p (x ∷ xs) = both (p x) (all p xs)

-- some member of the list passes the test
unfoldable pub any : {A : Type 0} → (A → Bool) → List A → Bool
any p [] = false
any p (x ∷ xs) = either (p x) (any p xs)

-- each number is at least `low`, and above the one before it
unfoldable pub rising_from : ℕ → List ℕ → Bool
rising_from low [] = true
rising_from low (x ∷ xs) = both (at_most low x) (rising_from (suc x) xs)

-- the two lists of numbers are the same
unfoldable pub same : List ℕ → List ℕ → Bool
same [] [] = true
same [] (y ∷ ys) = false
same (x ∷ xs) [] = false
same (x ∷ xs) (y ∷ ys) = both (equal x y) (same xs ys)

-- what stands at `from`, `from + step`, .., in all `count` times
unfoldable pub rows : {A : Type 0} → (ℕ → A) → ℕ → ℕ → ℕ → List A
rows read step zero from = []
rows read step (suc k) from = read from ∷ rows read step k (from + step)
