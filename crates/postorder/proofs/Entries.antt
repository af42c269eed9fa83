-- The entries of an assertion in a long form: the trees below it lie on the stack, the last on top, and none has a mark.
use Prim.Native.Nat.{ℕ, ◌+◌}
use mathlib.Core.Path.{◌≡◌, refl, ap, ◌∙◌}
use mathlib.Core.Option.{none}
use mathlib.Core.List.{List, [], ◌∷◌, ◌++◌, map, reverse, reverse_aux, reverse_aux-eq, reverse-reverse}
use native.Mathlib.Omega.{arith}
use lib.ListN.{length, take, drop, length-map, length-reverse, length-append}
use lib.Seq.{take_at, drop_at}
use Rattle.frames.specs.Logic.{pick}
use Rattle.machine.specs.Memory.{Proved, Entry}
use Rattle.machine.specs.Apply.{with_mark, marks, is_marked, marked, unmarked_first, unmarked, seat, arranged}

-- an entry without a mark
unfoldable pub plain : Proved → Entry
plain x = record { proved = x; mark = none }

-- entries on a stack, the last on top
unfoldable pub stacked : List Proved → List Entry → List Entry
stacked xs stack = reverse_aux (map plain xs) stack

module _ (xs : List Proved) (stack : List Entry) where
  stacked-eq : stacked xs stack ≡ reverse (map plain xs) ++ stack
  unfolding stacked
  stacked-eq = reverse_aux-eq (map plain xs) stack

  front_length : length (reverse (map plain xs)) ≡ length xs
  front_length = length-reverse (map plain xs) ∙ length-map xs plain

  pub stacked-length : length (stacked xs stack) ≡ length xs + length stack
  stacked-length = omega (arith, ap length stacked-eq, length-append (reverse (map plain xs)) stack, front_length)

  -- the top entries, from the bottom up, and what is below them
  pub top-entries : (n : ℕ) → length xs ≡ n → reverse (take n (stacked xs stack)) ≡ map plain xs
  top-entries n e =
      ap (λ (es : List Entry). reverse (take n es)) stacked-eq
      ∙ (ap (λ (es : List Entry). reverse es) (take_at (reverse (map plain xs)) stack n (front_length ∙ e)) ∙ reverse-reverse (map plain xs))

  pub below-entries : (n : ℕ) → length xs ≡ n → drop n (stacked xs stack) ≡ stack
  below-entries n e = ap (λ (es : List Entry). drop n es) stacked-eq ∙ drop_at (reverse (map plain xs)) stack n (front_length ∙ e)

-- none has a mark, so they are taken in order
pub no-marks : (xs : List Proved) → marks (map plain xs) ≡ []
unfolding marks with_mark plain
no-marks [] = refl
no-marks (x ∷ xs) = no-marks xs

pub all-unmarked : (xs : List Proved) → unmarked (map plain xs) ≡ xs
unfolding unmarked unmarked_first plain
all-unmarked [] = refl
all-unmarked (x ∷ xs) = ap (λ (ys : List Proved). x ∷ ys) (all-unmarked xs)

none-marked : (label : List ℕ) (xs : List Proved) → marked label (map plain xs) ≡ none
unfolding marked is_marked plain pick
none-marked label [] = refl
none-marked label (x ∷ xs) = none-marked label xs

pub in_order : (labels : List (List ℕ)) (xs us : List Proved) → length us ≡ length labels → arranged labels (map plain xs) us ≡ us
unfolding arranged seat
in_order [] xs [] e = refl
in_order [] xs (u ∷ us) e = absurd (omega arith)
in_order (l ∷ ls) xs [] e = absurd (omega arith)
in_order (l ∷ ls) xs (u ∷ us) e = rw (none-marked l xs) (ap (λ (ys : List Proved). u ∷ ys) (in_order ls xs us (omega arith)))
