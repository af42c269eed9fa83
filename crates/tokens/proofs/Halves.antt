-- The first of a sign in a token, as a relation that is followed byte by byte, and what it says: the halves that `cut` gives, and where the sign
-- stands first in a beginning of the token and in what is left of it.
use Prim.Native.Nat.{ℕ, zero, suc, ◌+◌, ◌≤◌, ◌<◌}
use mathlib.Core.Path.{◌≡◌, refl, sym, ap, subst}
use mathlib.Core.Option.{none, some}
use mathlib.Core.List.{List, [], ◌∷◌}
use native.Mathlib.Decide.{ℕ_discrete}
use native.Mathlib.Omega.{arith}
use lib.ListN.{length, take, drop}
use Rattle.frames.proofs.Chains.{pick_first, pick_second, equal-yes, equal-no}
use Rattle.machine.specs.Reading.{cut, prepend}
use Rattle.tokens.specs.Signs.{sign_at}

-- the sign stands first at this place, or nowhere and this is the end
pub data First (sign : ℕ) : List ℕ → ℕ → Type 0 where
  nowhere : First sign [] 0
  here : {b : ℕ} (bs : List ℕ) → b ≡ sign → First sign (b ∷ bs) 0
  later : {b : ℕ} {bs : List ℕ} {i : ℕ} → (b ≡ sign → ⊥) → First sign bs i → First sign (b ∷ bs) (suc i)

first : (sign : ℕ) (t : List ℕ) → First sign t (sign_at sign t)
unfolding sign_at
first sign [] = nowhere
first sign (b ∷ bs) = go (ℕ_discrete b sign) (first sign bs)
  where
    go : Dec (b ≡ sign) → First sign bs (sign_at sign bs) → First sign (b ∷ bs) (sign_at sign (b ∷ bs))
    go (yes e) f = subst (First sign (b ∷ bs)) (pick_first _ (equal-yes e) refl) (here bs e)
    go (no n) f = subst (First sign (b ∷ bs)) (pick_second _ (equal-no n) refl) (later n f)

-- `sign_at` is that place
pub first-at : {sign i : ℕ} (t : List ℕ) → i ≡ sign_at sign t → First sign t i
first-at {sign} t e = subst (First sign t) (sym e) (first sign t)

module _ {sign : ℕ} where
  pub first-within : {t : List ℕ} {i : ℕ} → First sign t i → i ≤ length t
  first-within nowhere = omega arith
  first-within (here bs e) = omega arith
  first-within (later n f) = let le = first-within f in omega arith

  -- the halves at the sign
  pub cut_at : {t : List ℕ} {i : ℕ} → First sign t i → i < length t → cut sign t ≡ some (take i t, drop (suc i) t)
  unfolding cut prepend
  cut_at nowhere h = absurd (omega arith)
  cut_at (here bs e) h = sym (pick_first _ (equal-yes e) refl)
  cut_at (later {b} n f) h = sym (pick_second _ (equal-no n) (sym (ap (prepend b) (cut_at f (omega arith)))))

  -- a token without the sign
  pub cut-none : {t : List ℕ} {i : ℕ} → First sign t i → length t ≤ i → cut sign t ≡ none
  unfolding cut prepend
  cut-none nowhere h = refl
  cut-none (here bs e) h = absurd (omega arith)
  cut-none (later {b} n f) h = sym (pick_second _ (equal-no n) (sym (ap (prepend b) (cut-none f (omega arith)))))

  -- what stands there is the sign
  pub at_first : {t : List ℕ} {i : ℕ} → First sign t i → i < length t → drop i t ≡ sign ∷ drop (suc i) t
  at_first nowhere h = absurd (omega arith)
  at_first (here bs e) h = cc
  at_first (later n f) h = at_first f (omega arith)

  -- a beginning of the token, with the sign in it
  pub first-kept : {t : List ℕ} {i : ℕ} → First sign t i → (m : ℕ) → i < m → First sign (take m t) i
  first-kept f zero h = absurd (omega arith)
  first-kept nowhere (suc m) h = nowhere
  first-kept (here bs e) (suc m) h = here (take m bs) e
  first-kept (later n f) (suc m) h = later n (first-kept f m (omega arith))

  -- and one that ends before it
  pub first-cut : {t : List ℕ} {i : ℕ} → First sign t i → (m : ℕ) → m ≤ i → First sign (take m t) m
  first-cut f zero h = nowhere
  first-cut nowhere (suc m) h = absurd (omega arith)
  first-cut (here bs e) (suc m) h = absurd (omega arith)
  first-cut (later n f) (suc m) h = later n (first-cut f m (omega arith))

  -- what is left after m bytes without the sign
  pub first-left : {t : List ℕ} {i : ℕ} → First sign t i → (m k : ℕ) → i ≡ m + k → First sign (drop m t) k
  first-left {t} f zero k h = subst (First sign t) (omega arith) f
  first-left nowhere (suc m) k h = absurd (omega arith)
  first-left (here bs e) (suc m) k h = absurd (omega arith)
  first-left (later n f) (suc m) k h = first-left f m k (omega arith)
