-- What the index of labels holds: for each hash a chain of the statements whose labels have it, the last statement first.
use Rattle.std.specs.Prelude.{ℕ, zero, suc, ◌+◌, ◌*◌, ◌%◌, ◌<◌, ◌≡◌, List, [], ◌∷◌, length, get_or, set}
use Rattle.frames.specs.Logic.{equal, pick}
use Rattle.frames.specs.Layout.{rest_at}

-- the hash of a label, taken on from `h`
unfoldable pub hash_from : ℕ → List ℕ → ℕ
hash_from h [] = h
hash_from h (x ∷ xs) = hash_from ((h * 613 + x) % 8192) xs

-- the hash of a label, below 8,192
unfoldable pub hash_of : List ℕ → ℕ
hash_of label = hash_from 0 label

-- the label of a statement
abbrev pub label_of : List ℕ → List ℕ → ℕ → List ℕ
label_of f stmts i = rest_at f (get_or stmts i 0)

-- the number, and 1, of the last statement below n whose label has hash b; 0 where there is none
unfoldable pub last_with : List ℕ → List ℕ → ℕ → ℕ → ℕ
last_with f stmts b zero = 0
last_with f stmts b (suc n) = pick (equal (hash_of (label_of f stmts n)) b) (suc n) (last_with f stmts b n)

-- the table is the index of the statements below n
pub record LabelledTo (f stmts labels : List ℕ) (n : ℕ) : Type 0 where
  pub size : length labels ≡ 12288
  pub head : (b : ℕ) → b < 8192 → get_or labels b 0 ≡ last_with f stmts b n
  pub next : (j : ℕ) → j < n → get_or labels (8192 + j) 0 ≡ last_with f stmts (hash_of (label_of f stmts j)) j

-- the table is the index of all statements
pub record Labelled (f stmts labels : List ℕ) : Type 0 where
  pub all : LabelledTo f stmts labels (length stmts)

-- statement i is put at the head of the chain of hash b
pub record Put (labels : List ℕ) (b i : ℕ) (labels' : List ℕ) : Type 0 where
  pub is : labels' ≡ set (set labels (8192 + i) (get_or labels b 0)) b (i + 1)
