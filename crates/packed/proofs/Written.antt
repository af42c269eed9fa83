-- Laws of a buffer that is written: what was written stands there, what stands before it stays, and writing goes on behind it.
use Prim.Native.Nat.{ℕ, suc, ◌+◌, ◌-◌, ◌%◌, ◌≤◌, ◌<◌}
use mathlib.Core.Path.{◌≡◌, refl, sym, ap, ◌∙◌}
use mathlib.Core.List.{List, [], ◌∷◌, ◌++◌, append_assoc}
use native.Mathlib.Nat.{zero-add, suc-add, add-zero}
use native.Mathlib.Numerals.{add-one}
use native.Mathlib.Omega.{arith}
use lib.ListN.{length, get_or, take, drop, set, length-append, length-take, length-drop, length-set, take-append-drop}
use lib.Seq.{length-take-le, take-suc, drop-cons, take-append-le, drop-append-le, take_at, drop_at, set_at, set-append_left, get_or-take, drop-drop, take-append_seam, drop-append-add}
use borrow.Rule.Slice.PartMut.{put_mid}
use Rattle.std.specs.List.{copy_within}
use Rattle.packed.specs.Packing.{ended}
use Rattle.packed.specs.Pool.{written, range}

-- one more member of a front
pub take-one-more : (xs : List ℕ) (i : ℕ) → i < length xs → take (i + 1) xs ≡ take i xs ++ (get_or xs i 0 ∷ [])
take-one-more xs i h = rw add-one (take-suc xs i 0 h)

-- a part has the length of its range
pub range_length : (from to : ℕ) (pool : List ℕ) → from ≤ to → to ≤ length pool → length (range from to pool) ≡ to - from
unfolding range
range_length from to pool h k = length-take-le _ _ (rw length-drop (omega arith))

-- a part of the front of a joined buffer
pub range_front : (from to : ℕ) (xs ys : List ℕ) → from ≤ to → to ≤ length xs → range from to (xs ++ ys) ≡ range from to xs
unfolding range
range_front from to xs ys h k =
    let l : from ≤ length xs = omega arith in
    let m : to - from ≤ length (drop from xs) = rw length-drop (omega arith) in
    rw (drop-append-le, take-append-le)

-- a store behind a front of known length
set-later : (xs ys : List ℕ) (n i b : ℕ) → length xs ≡ n → set (xs ++ ys) (n + i) b ≡ xs ++ set ys i b
set-later xs ys n i b e = rw (← e) (stored xs)
  where
    stored : (zs : List ℕ) → set (zs ++ ys) (length zs + i) b ≡ zs ++ set ys i b
    stored [] = rw zero-add
    stored (z ∷ zs) = rw suc-add (ap (λ (r : List ℕ). z ∷ r) (stored zs))

-- a text copied over the part of its length, and a part of the buffer copied to another place
pub copied_in : (text : List ℕ) (at n : ℕ) (pool : List ℕ) → n ≡ length text → put_mid at n pool text ≡ written text at pool
unfolding written
copied_in text at n pool e = rw (e, drop-drop) refl

pub copied-within : (from to at : ℕ) (pool : List ℕ) → from ≤ to → to ≤ length pool → copy_within pool from to at ≡ written (range from to pool) at pool
unfolding written range
copied-within from to at pool h k =
    let size : to - from ≡ length (range from to pool) = sym (range_length from to pool h k) in
    rw (← size) (append_assoc (take at pool) (range from to pool) _)

-- the last byte of a name, marked
pub set_ended : (name : List ℕ) → 1 ≤ length name → set name (length name - 1) (128 + get_or name (length name - 1) 0 % 128) ≡ ended name
unfolding ended
set_ended [] h = absurd (omega arith)
set_ended (b ∷ []) h = refl
set_ended (b ∷ c ∷ cs) h =
    let e : suc (suc (length cs)) - 1 ≡ suc (suc (length cs) - 1) = omega arith in
    rw e (ap (λ (r : List ℕ). b ∷ r) (set_ended (c ∷ cs) (omega arith)))

-- nothing written leaves the buffer
pub written_none : (at : ℕ) (pool : List ℕ) → written [] at pool ≡ pool
unfolding written
written_none at pool = rw add-zero (take-append-drop at pool)

module _ (xs : List ℕ) (at : ℕ) (pool : List ℕ) where
  -- how long the front is, up to the end of what is written
  front_length : at ≤ length pool → length (take at pool ++ xs) ≡ at + length xs
  front_length h = rw (length-append, length-take-le)

  -- a written buffer is that front and the rest
  written-front : written xs at pool ≡ (take at pool ++ xs) ++ drop (at + length xs) pool
  unfolding written
  written-front = sym (append_assoc (take at pool) xs _)

  -- a buffer keeps its length
  pub written-length : at + length xs ≤ length pool → length (written xs at pool) ≡ length pool
  unfolding written
  written-length h = simp (length-append, length-take, length-drop) (omega arith)

  -- what stands before it stays
  pub written-take : at ≤ length pool → take at (written xs at pool) ≡ take at pool
  unfolding written
  written-take h = take_at _ _ at (length-take-le at pool h)

  -- what stands after it stays
  pub written-past : (k : ℕ) → at + length xs ≤ k → at + length xs ≤ length pool → drop k (written xs at pool) ≡ drop k pool
  written-past k h f =
      let size : length (take at pool ++ xs) ≡ at + length xs = front_length (omega arith) in
      let there : k ≡ length (take at pool ++ xs) + (k - (at + length xs)) = omega arith in
      let back : (at + length xs) + (k - (at + length xs)) ≡ k = omega arith in
      ap (λ (r : List ℕ). drop k r) written-front
      ∙ ap (λ (j : ℕ). drop j ((take at pool ++ xs) ++ drop (at + length xs) pool)) there
      ∙ drop-append-add (take at pool ++ xs) (drop (at + length xs) pool) (k - (at + length xs))
      ∙ drop-drop (k - (at + length xs)) (at + length xs) pool
      ∙ ap (λ (j : ℕ). drop j pool) back

  -- each byte before it stays
  pub written-before : (j d : ℕ) → j < at → at ≤ length pool → get_or (written xs at pool) j d ≡ get_or pool j d
  written-before j d h k =
      sym (get_or-take at (written xs at pool) j d h) ∙ ap (λ (r : List ℕ). get_or r j d) (written-take k) ∙ get_or-take at pool j d h

  -- each part before it stays
  pub range-before : (from to : ℕ) → from ≤ to → to ≤ at → at ≤ length pool → range from to (written xs at pool) ≡ range from to pool
  unfolding written
  range-before from to h k l =
      let m : to ≤ length (take at pool) = rw length-take-le k in
      range_front from to (take at pool) _ h m
      ∙ sym (rw take-append-drop at (range_front from to (take at pool) (drop at pool) h m))

  -- what was written stands there
  pub range-written : at + length xs ≤ length pool → range at (at + length xs) (written xs at pool) ≡ xs
  unfolding range written
  range-written h =
      let e : at + length xs - at ≡ length xs = omega arith in
      rw (drop_at (take at pool) _ at (length-take-le at pool (omega arith)), e) (take-append_seam xs _)

  -- one more byte behind it
  pub written-more : (b : ℕ) → at + length xs < length pool → set (written xs at pool) (at + length xs) b ≡ written (xs ++ (b ∷ [])) at pool
  unfolding written
  written-more b h =
      let e : at + length (xs ++ (b ∷ [])) ≡ suc (at + length xs) = omega (arith, length-append xs (b ∷ [])) in
      rw (e, drop-cons pool (at + length xs) 0, ← append_assoc (take at pool) xs)
      (set_at (take at pool ++ xs) _ _ b (at + length xs) (front_length (omega arith)) ∙ simp append_assoc)

  -- one byte of it
  pub written-set : (i b : ℕ) → i < length xs → at ≤ length pool → set (written xs at pool) (at + i) b ≡ written (set xs i b) at pool
  unfolding written
  written-set i b h k =
      rw (set-later (take at pool) (xs ++ drop (at + length xs) pool) at i b (length-take-le at pool k), set-append_left, length-set)

  -- more bytes behind it
  pub written-append : (ys : List ℕ) → at + length xs + length ys ≤ length pool
      → written ys (at + length xs) (written xs at pool) ≡ written (xs ++ ys) at pool
  unfolding written
  written-append ys h =
      let n : ℕ = at + length xs in
      let l : length (take at pool ++ xs) ≡ n = front_length (omega arith) in
      let e : at + length (xs ++ ys) ≡ n + length ys = omega (arith, length-append xs ys) in
      let t : take n (written xs at pool) ≡ take at pool ++ xs = rw written-front (take_at _ _ n l) in
      let d : drop (n + length ys) (written xs at pool) ≡ drop (n + length ys) pool =
      rw (← drop-drop (length ys) n (written xs at pool), written-front, drop_at (take at pool ++ xs) _ n l) (drop-drop (length ys) n pool) in
      rw (t, d, e) (simp append_assoc)

-- the last byte of a written name, marked
pub written_last : (name : List ℕ) (at : ℕ) (pool : List ℕ) → 1 ≤ length name → at + length name ≤ length pool
    → set (written name at pool) (at + length name - 1) (128 + get_or name (length name - 1) 0 % 128) ≡ written (ended name) at pool
written_last name at pool h k =
    let e : at + length name - 1 ≡ at + (length name - 1) = omega arith in
    rw (e, written-set name at pool (length name - 1) _ (omega arith) (omega arith), set_ended)

-- a name of one byte, marked
pub written_byte : (name : List ℕ) (at : ℕ) (pool : List ℕ) → length name ≡ 1 → at < length pool
    → set pool at (128 + get_or name 0 0 % 128) ≡ written (ended name) at pool
unfolding ended
written_byte [] at pool e h = absurd (omega arith)
written_byte (b ∷ []) at pool e h =
    let more = written-more [] at pool (128 + b % 128) (omega arith) in
    rw (written_none at pool, add-zero) at more
written_byte (b ∷ c ∷ cs) at pool e h = absurd (omega arith)
