-- A text written byte by byte: after i bytes the buffer is as it was with the first i bytes of the text in their place.
use Prim.Native.Nat.{ℕ, ◌+◌, ◌-◌, ◌≤◌, ◌<◌}
use mathlib.Core.Path.{◌≡◌, sym, ◌∙◌, ap}
use mathlib.Core.List.{List, [], ◌∷◌, ◌++◌}
use native.Mathlib.Omega.{arith}
use lib.ListN.{length, get_or, take, set, length-take}
use lib.Seq.{take_all, get_or-take, get_or-drop}
use Rattle.packed.specs.Pool.{written, range}
use Rattle.packed.proofs.Written.{take-one-more, written_none, written-length, written-before, written-more}

pub record Copied (text : List ℕ) (at : ℕ) (pool : List ℕ) (i : ℕ) (pool' : List ℕ) : Type 0 where
  pub fits : at + length text ≤ length pool
  pub few : i ≤ length text
  pub is : pool' ≡ written (take i text) at pool

pub copied_none : (text : List ℕ) (at : ℕ) (pool : List ℕ) → at + length text ≤ length pool → Copied text at pool 0 pool
copied_none text at pool f = record { fits = f; few = omega arith; is = sym (written_none at pool) }

module _ {text : List ℕ} {at : ℕ} {pool : List ℕ} {i : ℕ} {pool' : List ℕ} (c : Copied text at pool i pool') where
  front_length : length (take i text) ≡ i
  front_length = omega (arith, length-take i text, c.few)

  pub copied-length : length pool' ≡ length pool
  copied-length = ap length c.is ∙ written-length (take i text) at pool (omega (arith, front_length, c.fits, c.few))

  pub copied-before : (j : ℕ) → j < at → get_or pool' j 0 ≡ get_or pool j 0
  copied-before j l = ap (λ (p : List ℕ). get_or p j 0) c.is ∙ written-before (take i text) at pool j 0 l (omega (arith, c.fits))

  pub copied_more : (b : ℕ) → i < length text → b ≡ get_or text i 0 → Copied text at pool (i + 1) (set pool' (at + i) b)
  copied_more b l e =
      let place : at + i ≡ at + length (take i text) = omega (arith, front_length) in
      let stored : set (written (take i text) at pool) (at + length (take i text)) b ≡ written (take i text ++ (b ∷ [])) at pool =
      written-more (take i text) at pool b (omega (arith, front_length, c.fits)) in
      let longer : take (i + 1) text ≡ take i text ++ (b ∷ []) = take-one-more text i l ∙ ap (λ (x : ℕ). take i text ++ (x ∷ [])) (sym e) in
      record { fits = c.fits; few = omega arith; is = cc }

  -- the same, stored at a place that is the i-th of the text
  pub copied_more-at : (b k : ℕ) → i < length text → b ≡ get_or text i 0 → k ≡ at + i → Copied text at pool (i + 1) (set pool' k b)
  copied_more-at b k l e place = rw (sym (ap (λ (j : ℕ). set pool' j b) place)) at (copied_more b l e)

  pub copied_all : length text ≤ i → pool' ≡ written text at pool
  copied_all l = c.is ∙ ap (λ (t : List ℕ). written t at pool) (take_all i text l)

-- the i-th byte of a range
pub range_at : (from to : ℕ) (pool : List ℕ) (i : ℕ) → i < to - from → get_or (range from to pool) i 0 ≡ get_or pool (from + i) 0
unfolding range
range_at from to pool i l = rw (get_or-take, get_or-drop)
