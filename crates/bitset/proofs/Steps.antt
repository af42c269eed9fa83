-- How a step of an iteration takes apart what was left, by `first_of` and `rest_of`, both ways; and what a call of `next` gives and leaves, from what the trait's
-- `next_gives` says of it.
use mathlib.Core.Path.{◌≡◌, refl, sym, ap, ◌∙◌}
use mathlib.Core.List.{List, [], ◌∷◌}
use Prim.Native.Nat.{ℕ, ◌-◌, ◌≤◌, ◌<◌}
use native.Mathlib.Omega.{arith}
use lib.ListN.{length}
use Rattle.std.specs.Prelude.{Option, None, Some, MatchOption}
use Rattle.std.specs.Iterator.{YieldsFirst}
use Rattle.bitset.specs.declared.BitsetIter.{BitsetIter}
use Rattle.bitset.specs.Sets.{size}
use Rattle.bitset.specs.Iter.{left, first_of, rest_of}
use Rattle.bitset.proofs.Listed.{from_few}

-- a step that gives the first of what is left
pub step_gives : (xs ys : List ℕ) (n : ℕ) → xs ≡ n ∷ ys → (Some n ≡ first_of xs) × (ys ≡ rest_of xs)
unfolding first_of rest_of
step_gives xs ys n e = (sym (ap first_of e), sym (ap rest_of e))

-- a step where nothing is left
pub step-ends : (xs ys : List ℕ) → xs ≡ [] → ys ≡ [] → (None ≡ first_of xs) × (ys ≡ rest_of xs)
unfolding first_of rest_of
step-ends xs ys e f = (sym (ap first_of e), f ∙ sym (ap rest_of e))

-- a step that gave n: n was the first of what was left
pub step-at : (xs : List ℕ) (n : ℕ) → Some n ≡ first_of xs → xs ≡ n ∷ rest_of xs
unfolding first_of rest_of
step-at [] n e = let z : ◌≡◌ {A = ℕ} 0 1 = cc in absurd (omega arith)
step-at (x ∷ xs) n e = cc

-- a step that gave nothing: nothing was left
pub step-over : (xs : List ℕ) → None ≡ first_of xs → xs ≡ []
unfolding first_of
step-over [] e = refl
step-over (x ∷ xs) e = let z : ◌≡◌ {A = ℕ} 0 1 = cc in absurd (omega arith)

-- a step that gave n leaves less
pub step_less : (xs : List ℕ) (n : ℕ) → Some n ≡ first_of xs → length (rest_of xs) < length xs
step_less xs n e = let l = ap length (step-at xs n e) in omega arith

step-told : (xs ys : List ℕ) (r : Option ℕ) → MatchOption r ((xs ≡ []) × (ys ≡ [])) (λ n. xs ≡ n ∷ ys) → (r ≡ first_of xs) × (ys ≡ rest_of xs)
unfolding first_of rest_of
step-told xs ys None y = (sym (ap first_of y.0), y.1 ∙ sym (ap rest_of y.0))
step-told xs ys (Some n) y = (sym (ap first_of y), sym (ap rest_of y))

-- `next` gives the first of what was left, if there is one, and leaves what follows it
pub next-told : (before after : BitsetIter) (given : Option ℕ) → YieldsFirst left before given after
    → (given ≡ first_of (left before)) × (left after ≡ rest_of (left before))
next-told before after given y = step-told (left before) (left after) given y

-- no more members are left than numbers have a bit of their own
pub left_few : (it : BitsetIter) → length (left it) ≤ size it.set.words
unfolding left
left_few it = let few = from_few it.set.words (size it.set.words - it.at) it.at in omega arith
