-- The list of a set's members: it rises, each member stands in it once and nothing else does, and one step of it.
-- All by induction on how many numbers are left to look at.
use mathlib.Core.Path.{◌≡◌, refl, sym, ap, ◌∙◌}
use mathlib.Core.Logic.{◌≢◌}
use mathlib.Core.Bool.{Bool, true, false}
use mathlib.Core.List.{List, [], ◌∷◌, Memᴰ}
use Prim.Native.Nat.{ℕ, zero, suc, ◌+◌, ◌-◌, ◌*◌, ◌/◌, ◌%◌, ◌≤◌, ◌<◌}
use native.Mathlib.Omega.{arith}
use native.Mathlib.Decide.{ℕ_discrete, dec_lt}
use lib.Dec.{lit<}
use lib.ListN.{length, get_or}
use borrow.Author.Tests.{eq-eqb, ne_eqb}
use Rattle.std.specs.Bool.{MatchBool}
use Rattle.std.specs.List.{AllWithin, HoldsAt}
use Rattle.bitset.specs.Sets.{bit, member, size, Words, keep, members_from, members, is_nil, once, times, Rising, none, next}
use Rattle.bitset.proofs.Bits.{zero_bit, same_bits}
use Rattle.bitset.proofs.Laws.{past-size, member_below, word-bit}

-- one step of the list
pub from_step : (ws : List ℕ) (i : ℕ) → i < size ws
    → members_from ws (size ws - i) i
    ≡ keep (member ws i) i (members_from ws (size ws - (i + 1)) (i + 1))
unfolding members_from
from_step ws i h = let g : size ws - i ≡ suc (size ws - (i + 1)) = omega arith in rw g

-- a member comes first of what is left from it on
pub from_member : (ws : List ℕ) (i : ℕ) → i < size ws → member ws i ≡ true
    → members_from ws (size ws - i) i ≡ i ∷ members_from ws (size ws - (i + 1)) (i + 1)
unfolding keep
from_member ws i h e = rw (from_step ws i h, e)

-- what is no member is passed over
pub from-other : (ws : List ℕ) (i : ℕ) → i < size ws → member ws i ≡ false
    → members_from ws (size ws - i) i ≡ members_from ws (size ws - (i + 1)) (i + 1)
unfolding keep
from-other ws i h e = rw (from_step ws i h, e)

-- past the size nothing is left
pub from_end : (ws : List ℕ) (i : ℕ) → size ws ≤ i → members_from ws (size ws - i) i ≡ []
unfolding members_from
from_end ws i h = let g : size ws - i ≡ 0 = omega arith in rw g

-- a list that rises from a number rises from each below it
rising-lower : {n m : ℕ} {xs : List ℕ} → n ≤ m → Rising m xs → Rising n xs
rising-lower h none = none
rising-lower {n} h (next {x = x} l r) = let k : n ≤ x = omega arith in next k r

-- the list rises, with its first number or without
rising-keep : (b : Bool) (n : ℕ) (xs : List ℕ) → Rising (n + 1) xs → Rising n (keep b n xs)
unfolding keep
rising-keep true n xs r = let k : n ≤ n = omega arith in next k r
rising-keep false n xs r = rising-lower (omega arith) r

-- the members from any number on rise
from-rising : (ws : List ℕ) (k n : ℕ) → Rising n (members_from ws k n)
unfolding members_from
from-rising ws zero n = none
from-rising ws (suc k) n = rising-keep (member ws n) n (members_from ws k (n + 1)) (from-rising ws k (n + 1))

-- the members rise
pub members-rising : (ws : List ℕ) → Rising 0 (members ws)
unfolding members
members-rising ws = from-rising ws (size ws) 0

-- what is below all of a list does not stand in it
times_below : {n : ℕ} {xs : List ℕ} (m : ℕ) → m < n → Rising n xs → times m xs ≡ 0
unfolding times once
times_below m h none = refl
times_below m h (next {x = x} {xs = xs} l r) =
    let t = times_below m (omega arith) r in
    ap (λ (b : Bool). once b + times m xs) (ne_eqb x m (omega arith)) ∙ omega arith

-- a number before others that it is not among stands there once, if at all
times-first : (b : Bool) (n : ℕ) (xs : List ℕ) → times n xs ≡ 0 → times n (keep b n xs) ≡ once b
unfolding times keep once
times-first true n xs h =
    ap (λ (b : Bool). once b + times n xs) (eq-eqb n n refl) ∙ omega arith
times-first false n xs h = h

-- another number's place says nothing of this one
times-other : (b : Bool) (n m : ℕ) (xs : List ℕ) → m ≢ n → times m (keep b n xs) ≡ times m xs
unfolding times keep once
times-other true n m xs f = ap (λ (b : Bool). once b + times m xs) (ne_eqb n m (λ q. f (sym q))) ∙ omega arith
times-other false n m xs f = refl

-- a number from n on stands once among those listed if it is a member, and else not at all
from-times : (ws : List ℕ) (k n m : ℕ) → n ≤ m → (n + k ≤ m → member ws m ≡ false) → times m (members_from ws k n) ≡ once (member ws m)
unfolding members_from times once
from-times ws zero n m h f = sym (ap once (f (omega arith)))
from-times ws (suc k) n m h f = go (ℕ_discrete m n) (λ l. from-times ws k (n + 1) m l (λ q. f (omega arith)))
  where
    xs : List ℕ
    xs = members_from ws k (n + 1)

    go : Dec (m ≡ n) → (n + 1 ≤ m → times m xs ≡ once (member ws m)) → times m (keep (member ws n) n xs) ≡ once (member ws m)
    go (yes e) r =
        ap (λ (j : ℕ). times j (keep (member ws n) n xs)) e
        ∙ times-first (member ws n) n xs (times_below n (omega arith) (from-rising ws k (n + 1)))
        ∙ ap (λ (j : ℕ). once (member ws j)) (sym e)
    go (no g) r = times-other (member ws n) n m xs g ∙ r (omega arith)

-- each member stands in the list once, and nothing else stands there
pub members-complete : (ws : List ℕ) (m : ℕ) → times m (members ws) ≡ once (member ws m)
unfolding members
members-complete ws m = from-times ws (size ws) 0 m (omega arith) (λ h. past-size ws m (omega arith))

-- nothing is listed from any number on
from-none : (ws : List ℕ) (k n : ℕ) → ((m : ℕ) → member ws m ≡ false) → members_from ws k n ≡ []
unfolding members_from keep
from-none ws zero n f = refl
from-none ws (suc k) n f =
    ap (λ (b : Bool). keep b n (members_from ws k (n + 1))) (f n) ∙ from-none ws k (n + 1) f

-- a set with no member lists none
pub none-nil : (ws : List ℕ) → ((m : ℕ) → member ws m ≡ false) → is_nil (members ws) ≡ true
unfolding members is_nil
none-nil ws f = ap is_nil (from-none ws (size ws) 0 f)

-- nothing stands in a list with no element
times-nil : (xs : List ℕ) (m : ℕ) → is_nil xs ≡ true → times m xs ≡ 0
unfolding is_nil times
times-nil [] m h = refl
times-nil (x ∷ xs) m h = let z : ◌≡◌ {A = ℕ} 0 1 = cc in absurd (omega arith)

-- a count of none says that the test failed
once-none : (b : Bool) → once b ≡ 0 → b ≡ false
unfolding once
once-none true h = absurd (omega arith)
once-none false h = refl

-- a set that lists none has no member
pub nil-none : (ws : List ℕ) (m : ℕ) → is_nil (members ws) ≡ true → member ws m ≡ false
nil-none ws m h = once-none (member ws m) (sym (members-complete ws m) ∙ times-nil (members ws) m h)

-- where each word is zero there is no member
pub zero-words : (ws : List ℕ) → ((i : ℕ) → i < length ws → get_or ws i 0 ≡ 0) → is_nil (members ws) ≡ true
unfolding member size
zero-words ws f = none-nil ws (λ m. go m (dec_lt (m / 64) (length ws)))
  where
    go : (m : ℕ) → Dec (m / 64 < length ws) → member ws m ≡ false
    go m (yes h) = ap (λ (w : ℕ). bit w (m % 64)) (f (m / 64) h) ∙ zero_bit (m % 64)
    go m (no g) = past-size ws m (omega arith)

-- where a word is not zero there is a member
pub some_word : {bits : ℕ} {ws : List ℕ} (i : ℕ) → Words bits ws → (get_or ws i 0 ≡ 0 → ⊥) → is_nil (members ws) ≡ false
some_word {ws = ws} i w f = go (is_nil (members ws)) refl
  where
    go : (b : Bool) → is_nil (members ws) ≡ b → is_nil (members ws) ≡ false
    go false e = e
    go true e =
        absurd
        (f
        (same_bits 64 (get_or ws i 0) 0 (w.small i) (lit< tt)
        (λ j l. sym (word-bit ws i j l) ∙ nil-none ws (64 * i + j) e ∙ sym (zero_bit j))))

-- what stands in a list, stands first or among the others
listed-later : (b : Bool) (n : ℕ) {m : ℕ} {xs : List ℕ} → Memᴰ m xs → Memᴰ m (keep b n xs)
unfolding keep
listed-later true n h = Memᴰ.tail h
listed-later false n h = h

-- a number below the end of what is looked at, and a member, is listed
from-listed : (ws : List ℕ) (k n m : ℕ) → n ≤ m → m < n + k → member ws m ≡ true → Memᴰ m (members_from ws k n)
unfolding members_from keep
from-listed ws zero n m h l e = absurd (omega arith)
from-listed ws (suc k) n m h l e = go (ℕ_discrete m n) (λ q. from-listed ws k (n + 1) m q (omega arith) e)
  where
    xs : List ℕ
    xs = members_from ws k (n + 1)

    go : Dec (m ≡ n) → (n + 1 ≤ m → Memᴰ m xs) → Memᴰ m (keep (member ws n) n xs)
    go (yes q) r = let t : member ws n ≡ true = ap (member ws) (sym q) ∙ e in rw t (Memᴰ.head q)
    go (no g) r = listed-later (member ws n) n (r (omega arith))

-- each member is listed
pub member-listed : (ws : List ℕ) (m : ℕ) → member ws m ≡ true → Memᴰ m (members ws)
unfolding members
member-listed ws m e =
    let l = member_below ws m e in
    from-listed ws (size ws) 0 m (omega arith) (omega arith) e

-- what is listed stands there at least once
listed-times : {m : ℕ} {xs : List ℕ} → Memᴰ m xs → 0 < times m xs
unfolding times once
listed-times {m} (Memᴰ.head {x = x} {xs = xs} e) = rw (eq-eqb x m (sym e)) (omega arith)
listed-times {m} (Memᴰ.tail {x = x} {xs = xs} h) = let l = listed-times h in omega arith

-- what is listed is a member
pub listed-member : (ws : List ℕ) (m : ℕ) → Memᴰ m (members ws) → member ws m ≡ true
unfolding once
listed-member ws m h = go (member ws m) (rw (members-complete ws m) at (listed-times h))
  where
    go : (b : Bool) → 0 < once b → b ≡ true
    go true l = refl
    go false l = absurd (omega arith)

-- a list that is not empty begins with a number that it lists
first-listed : (xs : List ℕ) → is_nil xs ≡ false → (m : ℕ) × Memᴰ m xs
unfolding is_nil
first-listed [] h = let z : ◌≡◌ {A = ℕ} 0 1 = cc in absurd (omega arith)
first-listed (x ∷ xs) h = (x, Memᴰ.head refl)

-- a set that is not empty has a member
pub some-member : (ws : List ℕ) → is_nil (members ws) ≡ false → (m : ℕ) × (member ws m ≡ true)
some-member ws h = let f = first-listed (members ws) h in (f.0, listed-member ws f.0 f.1)

-- whether all words are zero tells whether no member is listed
pub zeros-told : {bits : ℕ} {ws : List ℕ} → Words bits ws → (answer : Bool)
    → MatchBool answer (AllWithin (λ w. w ≡ 0) ws 0 (length ws)) ((k : ℕ) × (k < length ws) × HoldsAt (λ w. w ≡ 0 → ⊥) ws k)
    → answer ≡ is_nil (members ws)
zeros-told {ws = ws} w true h = sym (zero-words ws (λ i l. h i 0 (omega arith) l))
zeros-told w false h = sym (some_word h.0 w (h.2 0))

-- no more members are listed than numbers are looked at
keep_few : (b : Bool) (n : ℕ) (xs : List ℕ) → length (keep b n xs) ≤ length xs + 1
unfolding keep
keep_few true n xs = omega arith
keep_few false n xs = omega arith

pub from_few : (ws : List ℕ) (k n : ℕ) → length (members_from ws k n) ≤ k
unfolding members_from
from_few ws zero n = omega arith
from_few ws (suc k) n =
    let one = keep_few (member ws n) n (members_from ws k (n + 1)) in
    let others = from_few ws k (n + 1) in
    omega arith
