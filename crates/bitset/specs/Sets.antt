-- Sets of numbers as lists of words of 64 bits, of any length: word i holds the members from 64 * i up to 64 * i + 63.
-- Nothing here says how many words there are.
use Rattle.std.specs.Prelude.{◌≡◌, Bool, true, false, ◌||◌, List, [], ◌∷◌, ℕ, zero, suc, ◌+◌, ◌*◌, ◌/◌, ◌%◌, ◌^◌, ◌≤◌, ◌<◌, eqb, length, get_or, set, replicate, map}
use Rattle.std.specs.List.{range_with_len}
use Rattle.std.specs.Int.Bits.{bit_or}

-- whether bit k of the word w is set
unfoldable pub bit : ℕ → ℕ → Bool
bit w k = eqb (w / 2 ^ k % 2) 1

-- whether n is a member: bit n % 64 of word n / 64, and no past the last word
unfoldable pub member : List ℕ → ℕ → Bool
member ws n = bit (get_or ws (n / 64) 0) (n % 64)

-- how many numbers have a bit of their own: the members are below it
unfoldable pub size : List ℕ → ℕ
size ws = 64 * length ws

-- the set with no member, of k words
unfoldable pub empty : ℕ → List ℕ
empty k = replicate k 0

-- the set with n added, where n is below the size; else the set itself
unfoldable pub insert : List ℕ → ℕ → List ℕ
insert ws n = set ws (n / 64) (bit_or (get_or ws (n / 64) 0) (2 ^ (n % 64)))

-- the set of what is a member of one or of the other
unfoldable pub union : List ℕ → List ℕ → List ℕ
union [] vs = vs
union (a ∷ ws) [] = a ∷ ws
union (a ∷ ws) (b ∷ vs) = bit_or a b ∷ union ws vs

-- word k of a table from word i on; 0 past its end
unfoldable pub word_from : List ℕ → ℕ → ℕ → ℕ
word_from table i k = get_or table (i + k) 0

-- n words of a table from word i on
unfoldable pub words_at : List ℕ → ℕ → ℕ → List ℕ
words_at table i n = map (word_from table i) (range_with_len 0 n)

-- the words of a set of so many bits: as many words as that takes, each below 2 ^ 64.
pub record Words (bits : ℕ) (ws : List ℕ) : Type 0 where
  pub sized : size ws ≡ bits
  pub small : (i : ℕ) → get_or ws i 0 < 2 ^ 64

-- a list with n before it where the test holds, else as it is
unfoldable pub keep : Bool → ℕ → List ℕ → List ℕ
keep true n xs = n ∷ xs
keep false n xs = xs

-- the members among the k numbers from n on, rising
unfoldable pub members_from : List ℕ → ℕ → ℕ → List ℕ
members_from ws zero n = []
members_from ws (suc k) n = keep (member ws n) n (members_from ws k (n + 1))

-- all members, rising
unfoldable pub members : List ℕ → List ℕ
members ws = members_from ws (size ws) 0

-- whether a list has no element
unfoldable pub is_nil : List ℕ → Bool
is_nil [] = true
is_nil (x ∷ xs) = false

-- 1 where the test holds, else 0
unfoldable pub once : Bool → ℕ
once true = 1
once false = 0

-- how often n stands in a list
unfoldable pub times : ℕ → List ℕ → ℕ
times n [] = 0
times n (x ∷ xs) = once (eqb x n) + times n xs

-- each element is above those before it, and none is below the bound
pub data Rising : ℕ → List ℕ → Type 0 where
  none : {n : ℕ} → Rising n []
  next : {n x : ℕ} {xs : List ℕ} → n ≤ x → Rising (x + 1) xs → Rising n (x ∷ xs)

-- the set of k words with no member
pub record Empty (ws : List ℕ) (k : ℕ) : Type 0 where
  pub none : (m : ℕ) → member ws m ≡ false
  pub is : ws ≡ empty k

-- exactly n is added to the members of ws; a number that is not below the size is refused, and nothing changes
pub record Added (ws : List ℕ) (n : ℕ) (now : List ℕ) : Type 0 where
  pub exactly : n < size ws → (m : ℕ) → member now m ≡ (eqb m n || member ws m)
  pub refused : size ws ≤ n → now ≡ ws
  pub is : now ≡ insert ws n

-- exactly what is a member of the one or of the other
pub record United (a b now : List ℕ) : Type 0 where
  pub exactly : (m : ℕ) → member now m ≡ (member a m || member b m)
  pub is : now ≡ union a b

-- the answer is yes exactly when there is no member
pub record TellsEmpty (ws : List ℕ) (answer : Bool) : Type 0 where
  pub yes : answer ≡ true → (m : ℕ) → member ws m ≡ false
  pub no : answer ≡ false → (m : ℕ) × (member ws m ≡ true)
  pub is : answer ≡ is_nil (members ws)
