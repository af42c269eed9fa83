-- The first of a sign is where the library's `position` finds it.
use Prim.Native.Nat.{ℕ, suc, ◌<◌, ◌≤◌}
use mathlib.Core.Path.{◌≡◌, refl, sym, ◌∙◌, ap}
use mathlib.Core.Bool.{Bool, true, false, cond}
use mathlib.Core.List.{List}
use native.Mathlib.Decide.{dec_lt}
use native.Mathlib.Omega.{arith}
use borrow.Author.Tests.{lt-ltb, le-ltb}
use lib.Dec.{eqb, ltb}
use lib.ListN.{length}
use Rattle.std.proofs.Common.{Option, Some, None}
use Rattle.std.proofs.lemmas.List.Recursion.{is_position_or_len}
use Rattle.std.proofs.lemmas.List.Sums.{prefix_len-le-length}
use Rattle.std.specs.List.{position_or_len}
use Rattle.std.specs.Option.{unwrap_or}
use Rattle.frames.specs.Logic.{equal, pick}
use Rattle.tokens.specs.Signs.{sign_at}

pick-cond : {A : Type 0} (t : Bool) (a b : A) → pick t a b ≡ cond t a b
unfolding pick
pick-cond true a b = refl
pick-cond false a b = refl

sign-position : (sign : ℕ) (token : List ℕ) → sign_at sign token ≡ position_or_len (λ b. eqb b sign) token
unfolding sign_at equal
sign-position sign token = is_position_or_len (sign_at sign) (λ b. eqb b sign) refl (λ x xs. pick-cond (eqb x sign) 0 (suc (sign_at sign xs)) ∙ ap (cond (eqb x sign) 0) (omega arith)) token

-- a place that was searched for, or the length where there is none
or-length : {r : Option ℕ} (place size : ℕ) → r ≡ cond (ltb place size) (Some place) None → place ≤ size → unwrap_or r size ≡ place
or-length {r} place size e h = go (dec_lt place size)
  where
    go : Dec (place < size) → unwrap_or r size ≡ place
    go (yes l) = rw (e, lt-ltb place size l) refl
    go (no n) = let le : size ≤ place = omega arith in rw (e, le-ltb place size le) (omega arith)

pub found-sign : {r : Option ℕ} (sign : ℕ) (token : List ℕ)
    → r ≡ cond (ltb (position_or_len (λ b. eqb b sign) token) (length token)) (Some (position_or_len (λ b. eqb b sign) token)) None
    → unwrap_or r (length token) ≡ sign_at sign token
found-sign sign token e =
    or-length (position_or_len (λ b. eqb b sign) token) (length token) e (prefix_len-le-length _ token)
    ∙ sym (sign-position sign token)
