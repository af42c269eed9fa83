-- Names and labels. The rest of a well-formed record lies within the file, so a name or label has the size that row 1 tests;
-- its bytes are what rows 3 and 4 test; and where each is new among those before it, no two are the same.
use Prim.Native.Nat.{ℕ, ◌-◌, ◌≤◌, ◌<◌}
use mathlib.Core.Path.{◌≡◌, sym}
use mathlib.Core.Bool.{true, false}
use mathlib.Core.List.{List}
use native.Mathlib.Omega.{arith}
use lib.ListN.{length, take, drop, get_or, length-take, length-drop}
use lib.Seq.{get_or-take}
use Rattle.frames.specs.Layout.{kind_at, next_at, rest_from, rest_size, rest_at}
use Rattle.frames.specs.Table.{bad_rest, name_byte, label_byte, used}
use Rattle.frames.specs.Facts.{NameByte, LabelByte, small, capital, digit, hyphen, underscore, dot}
use Rattle.frames.proofs.Chains.{below_false, at_most-true, equal-true, equal-no, equal-false, no-of-false}
use Rattle.frames.proofs.Tells.{not-zero, true-not-false, both_true, both_false, either-false, no_true, one_of-cases, one_of-none}
use Rattle.frames.proofs.Found.{used-index}
use Rattle.frames.proofs.Fine.{WellFormed}

-- the rest of a record has its size
pub rest-length : (f : List ℕ) (o : ℕ) → WellFormed f o → length (rest_at f o) ≡ rest_size f o
unfolding rest_at rest_size
rest-length f o w = omega (arith, length-take (next_at f o - rest_from f o) (drop (rest_from f o) f), length-drop (rest_from f o) f, w.within, w.lists)

-- a name or label has 1 to 64 bytes
pub record Sized (text : List ℕ) : Type 0 where
  pub some : 1 ≤ length text
  pub most : length text ≤ 64

pub rest-sized : (f : List ℕ) (o : ℕ) → WellFormed f o → (kind_at f o ≡ 6 → ⊥) → Sized (rest_at f o)
unfolding bad_rest
rest-sized f o w k =
    let h = either-false _ _ (both_false _ _ w.rest (no-of-false (equal-no k))) in
    let l = rest-length f o w in
    record {
      some = rw l (not-zero (rest_size f o) (equal-false _ _ h.0));
      most = rw l (below_false _ _ h.1);
    }

pub name-byte : (b : ℕ) → name_byte b ≡ true → NameByte b
unfolding name_byte
name-byte b e =
    let h = both_true _ _ e in
    let g = both_true _ _ h.0 in
    record { low = at_most-true _ _ g.0; high = at_most-true _ _ g.1; not_dollar = equal-false _ _ (no_true _ h.1) }

pub label-byte : (b : ℕ) → label_byte b ≡ true → LabelByte b
unfolding label_byte
label-byte b e =
    one_of-cases _ _ (λ h. let g = both_true _ _ h in small (at_most-true _ _ g.0) (at_most-true _ _ g.1))
    (one_of-cases _ _ (λ h. let g = both_true _ _ h in capital (at_most-true _ _ g.0) (at_most-true _ _ g.1))
    (one_of-cases _ _ (λ h. let g = both_true _ _ h in digit (at_most-true _ _ g.0) (at_most-true _ _ g.1))
    (one_of-cases _ _ (λ h. hyphen (equal-true _ _ h))
    (one_of-cases _ _ (λ h. underscore (equal-true _ _ h))
    (one_of-cases _ _ (λ h. dot (equal-true _ _ h)) (λ h. absurd (one_of-none h)))))))
    e

-- where each name or label is new among those before it,
module _ (f os : List ℕ) (fresh : (i : ℕ) → i < length os → used f (take i os) (rest_at f (get_or os i 0)) ≡ false) where
  -- a later one is not the same
  fresh-later : (i j : ℕ) → i < j → j < length os → rest_at f (get_or os i 0) ≡ rest_at f (get_or os j 0) → ⊥
  fresh-later i j l h e =
      let inside : i < length (take j os) = omega (arith, length-take j os) in
      true-not-false (sym (used-index f (take j os) (rest_at f (get_or os j 0)) i inside (rw (get_or-take j os i 0 l) e))) (fresh j h)

  -- and no two are the same
  pub fresh-differ : (i j : ℕ) → i < length os → j < length os → rest_at f (get_or os i 0) ≡ rest_at f (get_or os j 0) → i ≡ j
  fresh-differ i j h g e =
      let not-later : i < j → ⊥ = λ l. fresh-later i j l g e in
      let not_earlier : j < i → ⊥ = λ l. fresh-later j i l h (sym e) in
      omega arith
