-- What the members of a set are after each operation, over lists of words of any length, and that the members settle the set.
use mathlib.Core.Path.{◌≡◌, refl, sym, ap, ap₂, ◌∙◌}
use mathlib.Core.Logic.{◌≢◌}
use mathlib.Core.Bool.{Bool, true, false, ◌||◌, or-true, or-false}
use mathlib.Core.List.{List, [], ◌∷◌}
use Prim.Native.Nat.{ℕ, zero, suc, ◌+◌, ◌*◌, ◌/◌, ◌%◌, ◌^◌, ◌≤◌, ◌<◌}
use native.Mathlib.Nat.{add-zero}
use native.Mathlib.Omega.{arith}
use native.Mathlib.Decide.{ℕ_discrete, dec_lt}
use lib.Dec.{eqb, lit<}
use lib.Bits.{bit_or, or_zero_r, or_lt}
use lib.Pow.{pow-lt}
use lib.ListN.{length, get_or, replicate, length-set, length-replicate, get_or-eq_default}
use lib.Seq.{set_out, get_or-set_same, get_or-set_other, ext_get_or}
use mir.Syntax.{w64}
use mir.Val.{Fits}
use borrow.Author.Tests.{eq-eqb, ne_eqb}
use Rattle.bitset.specs.Sets.{bit, member, size, empty, insert, union, word_from, words_at, Words}
use Rattle.bitset.proofs.Bits.{zero_bit, power-bit, or-bit, same_bits}

-- no number past the size is a member
pub past-size : (ws : List ℕ) (n : ℕ) → size ws ≤ n → member ws n ≡ false
unfolding member size
past-size ws n h =
    ap (λ (w : ℕ). bit w (n % 64)) (get_or-eq_default ws 0 {n = n / 64} (omega arith)) ∙ zero_bit (n % 64)

-- a member is below the size
pub member_below : (ws : List ℕ) (n : ℕ) → member ws n ≡ true → n < size ws
member_below ws n h = go (dec_lt n (size ws))
  where
    go : Dec (n < size ws) → n < size ws
    go (yes l) = l
    go (no f) = let e : member ws n ≡ false = past-size ws n (omega arith) in let z : ◌≡◌ {A = ℕ} 0 1 = cc in omega arith

-- each word of the empty set is zero
zero-at : (k i : ℕ) → ◌≡◌ {A = ℕ} (get_or (replicate k 0) i 0) 0
zero-at zero i = refl
zero-at (suc k) zero = refl
zero-at (suc k) (suc i) = zero-at k i

-- the empty set has no member
pub empty-member : (k n : ℕ) → member (empty k) n ≡ false
unfolding member empty
empty-member k n = ap (λ (w : ℕ). bit w (n % 64)) (zero-at k (n / 64)) ∙ zero_bit (n % 64)

-- `insert` keeps the size
pub insert-size : (ws : List ℕ) (n : ℕ) → size (insert ws n) ≡ size ws
unfolding size insert
insert-size ws n = ap (λ (k : ℕ). 64 * k) (length-set ws (n / 64) _)

-- `insert` of a number past the size changes nothing
pub insert-refused : (ws : List ℕ) (n : ℕ) → size ws ≤ n → insert ws n ≡ ws
unfolding size insert
insert-refused ws n h = set_out ws (n / 64) _ (omega arith)

-- `insert` adds its number
pub insert-same : (ws : List ℕ) (n : ℕ) → n < size ws → member (insert ws n) n ≡ true
unfolding member size insert
insert-same ws n h =
    ap (λ (w : ℕ). bit w (n % 64)) (get_or-set_same ws (n / 64) _ 0 (omega arith))
    ∙ or-bit (get_or ws (n / 64) 0) (2 ^ (n % 64)) (n % 64)
    ∙ ap (λ (b : Bool). bit (get_or ws (n / 64) 0) (n % 64) || b) (power-bit (n % 64) (n % 64) ∙ eq-eqb (n % 64) (n % 64) refl)
    ∙ or-true (bit (get_or ws (n / 64) 0) (n % 64))

-- `insert` changes nothing of any other number
pub insert-other : (ws : List ℕ) (n m : ℕ) → m ≢ n → member (insert ws n) m ≡ member ws m
unfolding member size insert
insert-other ws n m f = go (ℕ_discrete (m / 64) (n / 64)) (dec_lt (n / 64) (length ws))
  where
    go : Dec (m / 64 ≡ n / 64) → Dec (n / 64 < length ws) → member (insert ws n) m ≡ member ws m
    go (no g) d = ap (λ (w : ℕ). bit w (m % 64)) (get_or-set_other ws (n / 64) (m / 64) _ 0 g)
    go (yes e) (no g) = ap (λ (l : List ℕ). member l m) (insert-refused ws n (omega arith))
    go (yes e) (yes h) =
        ap (λ (i : ℕ). bit (get_or (insert ws n) i 0) (m % 64)) e
        ∙ ap (λ (w : ℕ). bit w (m % 64)) (get_or-set_same ws (n / 64) _ 0 h)
        ∙ or-bit (get_or ws (n / 64) 0) (2 ^ (n % 64)) (m % 64)
        ∙ ap (λ (b : Bool). bit (get_or ws (n / 64) 0) (m % 64) || b)
        (power-bit (n % 64) (m % 64) ∙ ne_eqb (n % 64) (m % 64) (λ q. f (omega arith)))
        ∙ or-false (bit (get_or ws (n / 64) 0) (m % 64))
        ∙ ap (λ (i : ℕ). bit (get_or ws i 0) (m % 64)) (sym e)

-- `insert` adds its number and no other
pub insert-member : (ws : List ℕ) (n m : ℕ) → n < size ws → member (insert ws n) m ≡ (eqb m n || member ws m)
insert-member ws n m h = go (ℕ_discrete m n)
  where
    go : Dec (m ≡ n) → member (insert ws n) m ≡ (eqb m n || member ws m)
    go (yes e) =
        ap (λ (k : ℕ). member (insert ws n) k) e ∙ insert-same ws n h
        ∙ sym (ap (λ (b : Bool). b || member ws m) (eq-eqb m n e))
    go (no f) = insert-other ws n m f ∙ sym (ap (λ (b : Bool). b || member ws m) (ne_eqb m n f))

-- each word of a union is made of the two words at its place
pub union-at : (a b : List ℕ) (i : ℕ) → get_or (union a b) i 0 ≡ bit_or (get_or a i 0) (get_or b i 0)
unfolding union
union-at [] b i = refl
union-at (x ∷ a) [] zero = sym (or_zero_r x)
union-at (x ∷ a) [] (suc i) = sym (or_zero_r (get_or a i 0))
union-at (x ∷ a) (y ∷ b) zero = refl
union-at (x ∷ a) (y ∷ b) (suc i) = union-at a b i

-- a union has the members of both and no other
pub union-member : (a b : List ℕ) (m : ℕ) → member (union a b) m ≡ (member a m || member b m)
unfolding member
union-member a b m =
    ap (λ (w : ℕ). bit w (m % 64)) (union-at a b (m / 64)) ∙ or-bit (get_or a (m / 64) 0) (get_or b (m / 64) 0) (m % 64)

-- a union of two sets of one size has that size
pub union-length : (a b : List ℕ) → length a ≡ length b → length (union a b) ≡ length a
unfolding union
union-length [] b h = sym h
union-length (x ∷ a) [] h = refl
union-length (x ∷ a) (y ∷ b) h = ap suc (union-length a b (omega arith))

-- the words of an array of k elements of 64 bits
pub array-words : (k : ℕ) (ws : List ℕ) → length ws ≡ k → ((i : ℕ) → Fits w64 (get_or ws i 0)) → Words (64 * k) ws
unfolding size
array-words k ws h f = record { sized = ap (λ (n : ℕ). 64 * n) h; small = λ i. (f i).fits }

-- the words of an empty set
pub empty-words : (k : ℕ) → Words (64 * k) (empty k)
unfolding size empty
empty-words k = record { sized = ap (λ (n : ℕ). 64 * n) (length-replicate k 0); small = λ i. rw zero-at (lit< tt) }

-- the words after `insert` are those of a set of the same size
pub insert-words : {bits : ℕ} {ws : List ℕ} (n : ℕ) → Words bits ws → Words bits (insert ws n)
unfolding insert
insert-words {bits} {ws} n w = record { sized = insert-size ws n ∙ w.sized; small = λ i. go i (ℕ_discrete i (n / 64)) (dec_lt (n / 64) (length ws)) }
  where
    go : (i : ℕ) → Dec (i ≡ n / 64) → Dec (n / 64 < length ws) → get_or (insert ws n) i 0 < 2 ^ 64
    go i (no f) d = rw (get_or-set_other ws (n / 64) i _ 0 f) (w.small i)
    go i (yes e) (no g) = rw (set_out ws (n / 64) _ (omega arith)) (w.small i)
    go i (yes e) (yes h) =
        rw (e, get_or-set_same ws (n / 64) _ 0 h)
        (or_lt 64 (get_or ws (n / 64) 0) (2 ^ (n % 64)) (w.small (n / 64)) (pow-lt {i = n % 64} {j = 64} (omega arith)))

-- the words of a union are those of a set of the same size
pub union-words : {bits : ℕ} {a b : List ℕ} → Words bits a → Words bits b → Words bits (union a b)
unfolding size
union-words {a = a} {b = b} wa wb =
    let sa = wa.sized in
    let sb = wb.sized in
    record {
      sized = ap (λ (n : ℕ). 64 * n) (union-length a b (omega arith)) ∙ sa;
      small = λ i. rw (union-at a b i) (or_lt 64 (get_or a i 0) (get_or b i 0) (wa.small i) (wb.small i));
    }

-- bit j of word i is the membership of 64 * i + j
pub word-bit : (ws : List ℕ) (i j : ℕ) → j < 64 → member ws (64 * i + j) ≡ bit (get_or ws i 0) j
unfolding member
word-bit ws i j h = ap₂ (λ (x y : ℕ). bit (get_or ws x 0) y) (omega arith) (omega arith)

-- sets of one size with the same members are equal
pub same-members : {bits : ℕ} {a b : List ℕ} → Words bits a → Words bits b → ((m : ℕ) → member a m ≡ member b m) → a ≡ b
unfolding size
same-members {a = a} {b = b} wa wb q =
    let sa = wa.sized in
    let sb = wb.sized in
    ext_get_or 0 a b (omega arith)
    (λ i h.
    same_bits 64 (get_or a i 0) (get_or b i 0) (wa.small i) (wb.small i)
    (λ j l. sym (word-bit a i j l) ∙ q (64 * i + j) ∙ word-bit b i j l))

-- four words of a table, one by one
pub four-words : (table : List ℕ) (i : ℕ) → words_at table i 4 ≡ get_or table i 0 ∷ get_or table (i + 1) 0 ∷ get_or table (i + 2) 0 ∷ get_or table (i + 3) 0 ∷ []
unfolding words_at word_from
four-words table i = ap (λ (j : ℕ). get_or table j 0 ∷ get_or table (i + 1) 0 ∷ get_or table (i + 2) 0 ∷ get_or table (i + 3) 0 ∷ []) (add-zero i)
