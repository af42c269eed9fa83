-- Laws of searching: two lists are the same exactly when the test says so, and a member that passes is found.
use Rattle.std.proofs.Common.{Some, None, is_some}
use Prim.Native.Nat.{ℕ, zero, suc, ◌<◌}
use mathlib.Core.Path.{◌≡◌, refl, sym, ap, ap₂, subst, ◌∙◌}
use mathlib.Core.Bool.{Bool, true, false}
use mathlib.Core.List.{List, [], ◌∷◌}
use native.Mathlib.Omega.{arith}
use lib.ListN.{length, get_or}
use Rattle.frames.specs.Logic.{equal, both, either, any, same}
use Rattle.frames.specs.Layout.{rest_at}
use Rattle.frames.specs.Table.{named, used}
use Rattle.frames.specs.Search.{Finds, Found}
use Rattle.frames.proofs.Chains.{equal-yes, equal-true, either_first}

both_left : (t u : Bool) → both t u ≡ true → t ≡ true
unfolding both
both_left true u e = refl
both_left false u e = e

both_right : (t u : Bool) → both t u ≡ true → u ≡ true
unfolding both
both_right true u e = e
both_right false u e = let z : ◌≡◌ {A = ℕ} 0 1 = cc in absurd (omega arith)

-- what the test finds the same is the same
pub same_true : (xs ys : List ℕ) → same xs ys ≡ true → xs ≡ ys
unfolding same
same_true [] [] e = refl
same_true [] (y ∷ ys) e = let z : ◌≡◌ {A = ℕ} 0 1 = cc in absurd (omega arith)
same_true (x ∷ xs) [] e = let z : ◌≡◌ {A = ℕ} 0 1 = cc in absurd (omega arith)
same_true (x ∷ xs) (y ∷ ys) e =
    ap₂ ◌∷◌ (equal-true x y (both_left (equal x y) (same xs ys) e)) (same_true xs ys (both_right (equal x y) (same xs ys) e))

pub same_self : (xs : List ℕ) → same xs xs ≡ true
unfolding same both
same_self [] = refl
same_self (x ∷ xs) = rw (equal-yes {a = x} {b = x} refl) (same_self xs)

either-later : (t u : Bool) → true ≡ u → true ≡ either t u
unfolding either
either-later true u h = refl
either-later false u h = h

-- a member that passes is found
pub any-index : {A : Type 0} (p : A → Bool) (xs : List A) (i : ℕ) (d : A) → i < length xs → p (get_or xs i d) ≡ true → true ≡ any p xs
unfolding any
any-index p [] i d h e = absurd (omega arith)
any-index p (x ∷ xs) zero d h e = either_first (any p xs) e refl
any-index p (x ∷ xs) (suc i) d h e = either-later (p x) (any p xs) (any-index p xs i d (omega arith) e)

-- a record that bears a name or label shows that it is used
pub used-index : (f os text : List ℕ) (i : ℕ) → i < length os → rest_at f (get_or os i 0) ≡ text → true ≡ used f os text
unfolding used named
used-index f os text i h e = any-index (named f text) os i 0 h (ap (λ t. same t text) e ∙ same_self text)

-- what a search answers tells whether the name or label is used
pub finds-used : (f os text : List ℕ) (r : Found) (i : ℕ) → r ≡ Some i → Finds f os text r → true ≡ used f os text
finds-used f os text r i e h =
    let g : Finds f os text (Some i) = subst (Finds f os text) e h in
    used-index f os text i g.0 g.1

pub finds-unused : (f os text : List ℕ) (r : Found) → r ≡ None → Finds f os text r → false ≡ used f os text
finds-unused f os text r e h = sym (subst (Finds f os text) e h)

pub finds-at : (f os text : List ℕ) (r : Found) (i : ℕ) → r ≡ Some i → Finds f os text r → (i < length os) × (rest_at f (get_or os i 0) ≡ text)
finds-at f os text r i e h = subst (Finds f os text) e h

-- a search finds something exactly where the name or label is used
pub finds-is : (f os text : List ℕ) (r : Found) → Finds f os text r → is_some r ≡ used f os text
finds-is f os text (Some i) h = finds-used f os text (Some i) i refl h
finds-is f os text None h = sym h
