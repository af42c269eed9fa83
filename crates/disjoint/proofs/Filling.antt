-- Filling the disjoint table pair by pair.
use Prim.Native.Nat.{ℕ, suc, ◌+◌, ◌*◌, ◌/◌, ◌%◌, ◌≤◌, ◌<◌}
use mathlib.Core.Path.{◌≡◌, refl, sym, ap, ap₂, ◌∙◌}
use mathlib.Core.Bool.{Bool, true, false, ◌||◌}
use mathlib.Core.List.Memᴰ
use mathlib.Core.List.{List, [], ◌∷◌, ◌++◌}
use native.Mathlib.Omega.{arith}
use lib.Dec.{eqb}
use lib.ListN.{length, get_or, take}
use lib.Seq.{take-suc, take_all}
use Rattle.frames.specs.Logic.{equal, either, both, any}
use Rattle.frames.specs.Facts.{◌∈◌}
use Rattle.frames.proofs.Chains.{equal-yes, equal-true, equal-eqb}
use Rattle.frames.proofs.Tells.{both_true}
use Rattle.bitset.specs.Sets.{bit, member, size, insert}
use Rattle.bitset.proofs.Bits.{zero_bit}
use Rattle.bitset.proofs.Laws.{insert-member, insert-size, insert-refused}
use Rattle.machine.specs.Apply.{is_pair}
use Rattle.machine.specs.Run.{members}
use Rattle.packed.specs.Images.{set_of, number_in}
use Rattle.variables.specs.Numbering.{Numbered}
use Rattle.disjoint.specs.Disjoint.{pair_numbers, Tabled, Cleared, Enters, Fills}
use Rattle.disjoint.proofs.Numbers.{alike, number-below, number-entry}
use Rattle.disjoint.proofs.Tabling.{row-member}

-- a cleared table has no pair
pub fills-none : (numbers table : List ℕ) → Fills numbers [] table table
unfolding any member
fills-none numbers table =
    record {
      sized = refl;
      fills = λ vs count z n few inside within.
          record {
            tells = λ a b h g. row-member table a b g ∙ ap (λ (w : ℕ). bit w ((256 * a + b) % 64)) (z.zero ((256 * a + b) / 64)) ∙ zero_bit _;
          };
    }

-- a place in the whole table is a row and a number in it
place-equal : (a b x y : ℕ) → b < 256 → y < 256 → eqb (256 * a + b) (256 * x + y) ≡ both (equal a x) (equal b y)
unfolding both
place-equal a b x y h g = equal-eqb _ _ ∙ alike _ _ there back
  where
    there : equal (256 * a + b) (256 * x + y) ≡ true → both (equal a x) (equal b y) ≡ true
    there e =
        let q = equal-true (256 * a + b) (256 * x + y) e in
        let one : equal a x ≡ true = equal-yes (omega arith) in
        let two : equal b y ≡ true = equal-yes (omega arith) in
        rw (one, two) refl

    back : both (equal a x) (equal b y) ≡ true → equal (256 * a + b) (256 * x + y) ≡ true
    back e =
        let w = both_true (equal a x) (equal b y) e in
        let one = equal-true a x w.0 in
        let two = equal-true b y w.1 in
        equal-yes (omega arith)

turned : (p q m : Bool) → (p || (q || m)) ≡ either m (either q p)
unfolding either
turned true true true = refl
turned true true false = refl
turned true false true = refl
turned true false false = refl
turned false true true = refl
turned false true false = refl
turned false false true = refl
turned false false false = refl

-- what a row has after a pair of numbers was entered both ways
entered : (table : List ℕ) (x y a b : ℕ) → length table ≡ 1024 → x < 256 → y < 256 → a < 256 → b < 256
    → member (set_of (insert (insert table (256 * x + y)) (256 * y + x)) a) b ≡ either (member (set_of table a) b) (is_pair a b (x, y))
unfolding is_pair size
entered table x y a b sized hx hy ha hb =
    let first = insert-size table (256 * x + y) in
    row-member (insert (insert table (256 * x + y)) (256 * y + x)) a b hb
    ∙ insert-member (insert table (256 * x + y)) (256 * y + x) (256 * a + b) (omega arith)
    ∙ ap (λ (t : Bool). eqb (256 * a + b) (256 * y + x) || t) (insert-member table (256 * x + y) (256 * a + b) (omega arith))
    ∙ turned (eqb (256 * a + b) (256 * y + x)) (eqb (256 * a + b) (256 * x + y)) (member table (256 * a + b))
    ∙ ap₂ either (sym (row-member table a b hb)) (ap₂ either (place-equal a b x y hb hy) (place-equal a b y x hb hx))

either-none : (t : Bool) → either t false ≡ t
unfolding either
either-none true = refl
either-none false = refl

either-assoc : (a b c : Bool) → either (either a b) c ≡ either a (either b c)
unfolding either
either-assoc true b c = refl
either-assoc false b c = refl

any_last : {A : Type 0} (p : A → Bool) (xs : List A) (x : A) → any p (xs ++ (x ∷ [])) ≡ either (any p xs) (p x)
unfolding any either
any_last p [] x = either-none (p x)
any_last p (y ∷ ys) x = ap (either (p y)) (any_last p ys x) ∙ sym (either-assoc (p y) (any p ys) (p x))

members-last : (qs : List (ℕ × ℕ)) (q : ℕ × ℕ) → members (qs ++ (q ∷ [])) ≡ members qs ++ (q.0 ∷ q.1 ∷ [])
unfolding members
members-last [] q = refl
members-last (r ∷ qs) q = ap (λ (l : List ℕ). r.0 ∷ r.1 ∷ l) (members-last qs q)

-- one pair more
pub fills-more : {numbers table table' table'' : List ℕ} {qs : List (ℕ × ℕ)} {l r : ℕ} → Fills numbers qs table table'
    → Enters numbers l r table' table'' → Fills numbers (qs ++ ((l, r) ∷ [])) table table''
unfolding pair_numbers
fills-more {numbers} {table} {table'} {table''} {qs} {l} {r} before one = record { sized = one.sized ∙ before.sized; fills = more }
  where
    more : (vs : List ℕ) (count : ℕ) → Cleared table → Numbered numbers count vs → length vs ≤ 256
        → ((v : ℕ) → v ∈ members (qs ++ ((l, r) ∷ [])) → v ∈ vs) → ((v : ℕ) → v ∈ members (qs ++ ((l, r) ∷ [])) → v < length numbers)
        → Tabled (qs ++ ((l, r) ∷ [])) vs table''
    more vs count z n few inside within =
        let old : (v : ℕ) → v ∈ members qs → v ∈ members (qs ++ ((l, r) ∷ [])) = λ v m. rw (members-last qs (l, r)) (Memᴰ.append_left (l ∷ r ∷ []) m) in
        let left : l ∈ members (qs ++ ((l, r) ∷ [])) = rw (members-last qs (l, r)) (Memᴰ.append_right (members qs) (Memᴰ.head refl)) in
        let right : r ∈ members (qs ++ ((l, r) ∷ [])) = rw (members-last qs (l, r)) (Memᴰ.append_right (members qs) (Memᴰ.tail (Memᴰ.head refl))) in
        let t = before.fills vs count z n few (λ v m. inside v (old v m)) (λ v m. within v (old v m)) in
        let x = number-below vs l (inside l left) in
        let y = number-below vs r (inside r right) in
        let is = one.enters (number_in vs l) (number_in vs r) (number-entry l n (inside l left) (within l left))
        (number-entry r n (inside r right) (within r right)) (omega arith) (omega arith) in
        let size_is : length table' ≡ 1024 = before.sized ∙ z.sized in
        record {
          tells = λ a b h g.
              ap (λ (w : List ℕ). member (set_of w a) b) is
              ∙ entered table' (number_in vs l) (number_in vs r) a b size_is (omega arith) (omega arith) h g
              ∙ ap (λ (k : Bool). either k (is_pair a b (number_in vs l, number_in vs r))) (t.tells a b h g)
              ∙ sym (any_last (pair_numbers vs a b) qs (l, r));
        }

-- the pairs before the i-th, and that one
pub fills-next : {numbers table table' table'' : List ℕ} (qs : List (ℕ × ℕ)) {l r : ℕ} (i : ℕ) → i < length qs → (l, r) ≡ get_or qs i (0, 0)
    → Fills numbers (take i qs) table table' → Enters numbers l r table' table'' → Fills numbers (take (i + 1) qs) table table''
fills-next qs i h e before one =
    let next : i + 1 ≡ suc i = omega arith in
    let is = ap (λ (k : ℕ). take k qs) next ∙ take-suc qs i (0, 0) h ∙ ap (λ (q : ℕ × ℕ). take i qs ++ (q ∷ [])) (sym e) in
    rw is (fills-more before one)

pub fills-done : {numbers table table' : List ℕ} (qs : List (ℕ × ℕ)) (i : ℕ) → length qs ≤ i → Fills numbers (take i qs) table table'
    → Fills numbers qs table table'
fills-done qs i h f = rw (take_all i qs h) at f

-- past the end of the table nothing is stored
pub entry_past : (table : List ℕ) (a b : ℕ) → length table ≤ 4 * a + b / 64 → table ≡ insert table (256 * a + b)
unfolding size
entry_past table a b h = sym (insert-refused table (256 * a + b) (omega arith))
