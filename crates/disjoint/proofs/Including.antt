-- One set within another, by their union; what the rows of the members of a set tell, and the walk over them.
use Prim.Native.Nat.{ℕ}
use mathlib.Core.Path.{◌≡◌, refl, sym, ap, ◌∙◌}
use mathlib.Core.Bool.{Bool, true, false, ◌||◌}
use mathlib.Core.List.{List, [], ◌∷◌}
use Rattle.std.specs.Bool.{Decides}
use Rattle.std.specs.Prelude.{None, Some}
use Rattle.frames.specs.Logic.{equal, both, all, same}
use Rattle.frames.proofs.Chains.{equal-yes, equal-true}
use Rattle.frames.proofs.Tells.{both_true, all-member, true-not-false}
use Rattle.bitset.specs.Sets.{member, members, is_nil, Words, United, TellsEmpty}
use Rattle.bitset.specs.Iter.{first_of, rest_of}
use Rattle.bitset.proofs.Laws.{same-members, union-words}
use Rattle.bitset.proofs.Listed.{listed-member, member-listed}
use Rattle.bitset.proofs.Steps.{step-at, step-over}
use Rattle.packed.specs.Images.{set_of}
use Rattle.disjoint.specs.Disjoint.{row_has, apart}
use Rattle.disjoint.proofs.Numbers.{alike, all-each}

same_lists : (xs ys : List ℕ) → same xs ys ≡ true → xs ≡ ys
unfolding same
same_lists [] [] e = refl
same_lists [] (y ∷ ys) e = absurd (true-not-false e refl)
same_lists (x ∷ xs) [] e = absurd (true-not-false e refl)
same_lists (x ∷ xs) (y ∷ ys) e =
    let w = both_true (equal x y) (same xs ys) e in
    let first = equal-true x y w.0 in
    let rest = same_lists xs ys w.1 in
    cc

same_self : (xs : List ℕ) → same xs xs ≡ true
unfolding same both
same_self [] = refl
same_self (x ∷ xs) = let e : equal x x ≡ true = equal-yes refl in rw e (same_self xs)

right-holds : (t u : Bool) → t ≡ (t || u) → u ≡ true → t ≡ true
right-holds true u e h = refl
right-holds false u e h = e ∙ h

-- a set joined with what it has is the set itself
pub includes-tells : {bits : ℕ} {x y joined : List ℕ} (answer : Bool) → Words bits x → Words bits y → United x y joined → Decides answer (joined ≡ x)
    → answer ≡ all (member x) (members y)
includes-tells {bits} {x} {y} {joined} answer wx wy u d = alike _ _ there back
  where
    there : answer ≡ true → all (member x) (members y) ≡ true
    there e =
        let is = d.0 e in
        all-each (member x) (members y)
        (λ m h. right-holds (member x m) (member y m) (ap (λ (w : List ℕ). member w m) (sym is) ∙ u.exactly m) (listed-member y m h))

    kept : (m : ℕ) (t s : Bool) → member x m ≡ t → member y m ≡ s → all (member x) (members y) ≡ true → (member x m || member y m) ≡ member x m
    kept m true s ex ey e = rw ex refl
    kept m false false ex ey e = rw (ex, ey) refl
    kept m false true ex ey e = absurd (true-not-false (all-member (member x) (members y) e (member-listed y m ey)) ex)

    back : all (member x) (members y) ≡ true → answer ≡ true
    back e =
        let wide : Words bits joined = rw u.is (union-words wx wy) in
        d.1 (same-members wide wx (λ m. u.exactly m ∙ kept m (member x m) (member y m) refl refl e))

-- what a row includes is what the row has
pub row_told : (table ys : List ℕ) (a : ℕ) {row : List ℕ} {r : Bool} → row ≡ set_of table a → r ≡ all (member row) ys → r ≡ row_has table ys a
unfolding row_has
row_told table ys a is e = e ∙ ap (λ (w : List ℕ). all (member w) ys) is

-- what is left of a walk passes exactly when the whole does
pub record ApartSoFar (table ys whole xs : List ℕ) : Type 0 where
  pub is : all (row_has table ys) xs ≡ all (row_has table ys) whole

pub apart_none : (table ys whole : List ℕ) → ApartSoFar table ys whole whole
apart_none table ys whole = record { is = refl }

apart-at : {table ys whole xs rest : List ℕ} {a : ℕ} → ApartSoFar table ys whole xs → Some a ≡ first_of xs → rest ≡ rest_of xs
    → both (row_has table ys a) (all (row_has table ys) rest) ≡ all (row_has table ys) whole
unfolding all
apart-at {table} {ys} {xs = xs} {a = a} s first rest =
    ap (λ (r : List ℕ). both (row_has table ys a) (all (row_has table ys) r)) rest
    ∙ (sym (ap (all (row_has table ys)) (step-at xs a first)) ∙ s.is)

pub apart_more : {table ys whole xs rest : List ℕ} {a : ℕ} → ApartSoFar table ys whole xs → Some a ≡ first_of xs → rest ≡ rest_of xs
    → true ≡ row_has table ys a → ApartSoFar table ys whole rest
unfolding both
apart_more s first rest e = record { is = rw (sym e) at (apart-at s first rest) }

pub apart-stop : {table ys whole xs rest all_of : List ℕ} {a : ℕ} → ApartSoFar table ys whole xs → Some a ≡ first_of xs → rest ≡ rest_of xs
    → false ≡ row_has table ys a → whole ≡ all_of → false ≡ apart table all_of ys
unfolding both apart
apart-stop {table} {ys} s first rest e w = rw (sym e) at (apart-at s first rest) ∙ ap (all (row_has table ys)) w

pub apart-done : {table ys whole xs all_of : List ℕ} → ApartSoFar table ys whole xs → None ≡ first_of xs → whole ≡ all_of → true ≡ apart table all_of ys
unfolding all apart
apart-done {table} {ys} {xs = xs} s over w = sym (ap (all (row_has table ys)) (step-over xs over)) ∙ (s.is ∙ ap (all (row_has table ys)) w)

nil_is : (xs : List ℕ) → is_nil xs ≡ true → xs ≡ []
unfolding is_nil
nil_is [] e = refl
nil_is (x ∷ xs) e = absurd (true-not-false e refl)

-- an empty set is apart from every other
pub apart-empty : (table xs y : List ℕ) {r : Bool} → TellsEmpty y r → r ≡ true → true ≡ apart table xs (members y)
unfolding apart row_has all
apart-empty table xs y t e = rw (nil_is (members y) (sym t.is ∙ e)) (sym (all-each _ xs (λ a m. refl)))
