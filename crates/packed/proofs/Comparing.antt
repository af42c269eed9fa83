-- Comparing with the pool: a text that is met at a place, and a row of texts that are met one after another.
use Rattle.std.proofs.Common.{Some, None}
use Prim.Native.Nat.{ℕ, ◌+◌, ◌-◌, ◌%◌, ◌≤◌, ◌<◌}
use mathlib.Core.Path.{◌≡◌, refl, sym, ap, ◌∙◌}
use mathlib.Core.Bool.{Bool, true, false}
use mathlib.Core.List.{List, [], ◌∷◌, ◌++◌}
use native.Mathlib.Omega.{arith}
use lib.ListN.{length, get_or, take, drop, length-take, length-drop, drop_of_length-le}
use lib.Seq.{take-take, take-add, take-append_seam, drop-drop, drop-cons, get_or-drop}
use Rattle.frames.specs.Logic.{equal, both, pick, same}
use Rattle.frames.specs.Layout.{rest_at}
use Rattle.frames.specs.Database.{symbol_at}
use Rattle.frames.proofs.Chains.{pick_first, pick_second, equal-yes, equal-no}
use Rattle.frames.proofs.Found.{same_true, same_self}
use Rattle.frames.proofs.Loops.{Here, same-lengths}
use Rattle.frames.proofs.Tells.{true-not-false}
use Rattle.packed.specs.Packing.{ended}
use Rattle.packed.specs.Pool.{range, spelled, joined}
use Rattle.packed.specs.Compare.{met, Met}
use Rattle.packed.proofs.Written.{range_length, take-one-more}

-- a name is its bytes but the last, and the last one, marked
ended-last : (front : List ℕ) (b : ℕ) → ended (front ++ (b ∷ [])) ≡ front ++ ((128 + b % 128) ∷ [])
unfolding ended
ended-last [] b = refl
ended-last (x ∷ []) b = refl
ended-last (x ∷ y ∷ xs) b = ap (λ (r : List ℕ). x ∷ r) (ended-last (y ∷ xs) b)

both-turned : (t u w : Bool) → both t (both u w) ≡ both u (both t w)
unfolding both
both-turned true true w = refl
both-turned true false w = refl
both-turned false true w = refl
both-turned false false w = refl

-- two lists of one length are the same where their last members are, and those before
same-last : (xs ys : List ℕ) (a b : ℕ) → length xs ≡ length ys → both (equal a b) (same xs ys) ≡ same (xs ++ (a ∷ [])) (ys ++ (b ∷ []))
unfolding same
same-last [] [] a b e = refl
same-last [] (y ∷ ys) a b e = absurd (omega arith)
same-last (x ∷ xs) [] a b e = absurd (omega arith)
same-last (x ∷ xs) (y ∷ ys) a b e = both-turned (equal a b) (equal x y) (same xs ys) ∙ ap (both (equal x y)) (same-last xs ys a b (omega arith))

-- one byte more of a range
range-more : (at n : ℕ) (pool : List ℕ) → at + n < length pool → range at (at + (n + 1)) pool ≡ range at (at + n) pool ++ (get_or pool (at + n) 0 ∷ [])
unfolding range
range-more at n pool h =
    let longer : at + (n + 1) - at ≡ n + 1 = omega arith in
    let size : at + n - at ≡ n = omega arith in
    let l : n < length (drop at pool) = rw length-drop (omega arith) in
    rw (longer, size) (take-one-more (drop at pool) n l ∙ ap (λ (x : ℕ). take n (drop at pool) ++ (x ∷ [])) (get_or-drop at pool n 0))

-- so a name stands where its last byte, marked, does, and those before it
pub same-ended : {name : List ℕ} {x : Bool} (front : List ℕ) (last at : ℕ) (pool : List ℕ) → name ≡ front ++ (last ∷ []) → length front + 1 ≡ length name
    → at + length name ≤ length pool
    → x ≡ both (equal (128 + last % 128) (get_or pool (at + length front) 0)) (same front (range at (at + length front) pool))
    → x ≡ same (ended name) (range at (at + length name) pool)
same-ended {name} front last at pool e size h is =
    let l : length front ≡ length (range at (at + length front) pool) = omega (arith, range_length at (at + length front) pool (omega arith) (omega arith)) in
    is
    ∙ rw (e, ended-last front last, ← e, ← size, range-more at (length front) pool (omega arith))
    (same-last front (range at (at + length front) pool) (128 + last % 128) (get_or pool (at + length front) 0) l)

-- a name of no bytes stands anywhere
pub same_nothing : (name : List ℕ) (at : ℕ) (pool : List ℕ) → length name ≡ 0 → true ≡ same (ended name) (range at (at + length name) pool)
unfolding ended range same
same_nothing [] at pool e = let n : at + 0 - at ≡ 0 = omega arith in rw n refl
same_nothing (b ∷ bs) at pool e = absurd (omega arith)

both_end : (t : Bool) → t ≡ both t true
unfolding both
both_end true = refl
both_end false = refl

-- a name of one byte stands where that byte, marked, does
pub same_byte : (name : List ℕ) (at : ℕ) (pool : List ℕ) → length name ≡ 1 → at < length pool
    → equal (128 + get_or name 0 0 % 128) (get_or pool at 0) ≡ same (ended name) (range at (at + length name) pool)
unfolding ended range same
same_byte [] at pool e h = absurd (omega arith)
same_byte (b ∷ []) at pool e h =
    let n : at + length (b ∷ []) - at ≡ 1 = omega arith in
    rw (n, drop-cons pool at 0) (both_end (equal (128 + b % 128) (get_or pool at 0)))
same_byte (b ∷ c ∷ cs) at pool e h = absurd (omega arith)

-- a common front decides nothing
same-front : (t x y : List ℕ) → same (t ++ x) (t ++ y) ≡ same x y
unfolding same both
same-front [] x y = refl
same-front (b ∷ t) x y = rw (equal-yes {a = b} refl) (same-front t x y)

-- a test that does not hold
not_so : (t : Bool) → (t ≡ true → ⊥) → false ≡ t
not_so true h = absurd (h refl)
not_so false h = refl

module _ (at to n : ℕ) (pool : List ℕ) (fits : at + n ≤ to) where
  -- the first n bytes of a range
  range-take : take n (range at to pool) ≡ range at (at + n) pool
  unfolding range
  range-take =
      let h : n ≤ to - at = omega arith in
      let e : at + n - at ≡ n = omega arith in
      rw (take-take, e)

  -- a range is its first n bytes and the rest
  range_split : range at to pool ≡ range at (at + n) pool ++ range (at + n) to pool
  unfolding range
  range_split =
      let e : at + n - at ≡ n = omega arith in
      let d : to - at ≡ n + (to - (at + n)) = omega arith in
      rw (e, d, take-add, drop-drop)

-- the answer of `met` by its test
met-yes : (t : Bool) (n c : ℕ) → Some c ≡ pick t (Some n) None → (t ≡ true) × (c ≡ n)
unfolding pick
met-yes true n c e = (refl, cc)
met-yes false n c e = let z : ◌≡◌ {A = ℕ} 0 1 = cc in absurd (omega arith)

met-no : (t : Bool) (n : ℕ) → None ≡ pick t (Some n) None → t ≡ false
unfolding pick
met-no true n e = let z : ◌≡◌ {A = ℕ} 0 1 = cc in absurd (omega arith)
met-no false n e = refl

module _ (text : List ℕ) (at to n : ℕ) (pool : List ℕ) (size : length text ≡ n) where
  -- a text that is too long is not met
  pub meet-short : at ≤ to → to ≤ length pool → to - at < n → None ≡ met text at to pool
  unfolding met
  meet-short h k l =
      pick_second _
      (sym (same-lengths text _ (λ e. omega (arith, e, length-take (length text) (range at to pool), range_length at to pool h k))))
      refl

  -- the test of a text against as many bytes decides
  pub meet-yes : at + n ≤ to → same text (range at (at + n) pool) ≡ true → Some (at + n) ≡ met text at to pool
  unfolding met
  meet-yes h e = rw size (pick_first _ (rw (range-take at to n pool h) e) refl)

  pub meet-no : at + n ≤ to → same text (range at (at + n) pool) ≡ false → None ≡ met text at to pool
  unfolding met
  meet-no h e = rw size (pick_second _ (rw (range-take at to n pool h) e) refl)

module _ (text : List ℕ) (at to : ℕ) (pool : List ℕ) (rises : at ≤ to) (fits : to ≤ length pool) where
  -- after a text that was met, the rest of the range follows
  met-rest : (c : ℕ) → Some c ≡ met text at to pool → (c ≤ to) × (range at to pool ≡ text ++ range c to pool)
  unfolding met
  met-rest c e =
      let p = met-yes _ _ c e in
      let t : text ≡ take (length text) (range at to pool) = same_true _ _ p.0 in
      let l : at + length text ≤ to =
      omega (arith, ap length t, length-take (length text) (range at to pool), range_length at to pool rises fits) in
      let u : text ≡ range at (at + length text) pool = t ∙ range-take at to (length text) pool l in
      (omega (arith, p.1), cc (range_split at to (length text) pool l, p.1))

  -- a range that begins with the text meets it
  met-never : (rest : List ℕ) → None ≡ met text at to pool → range at to pool ≡ text ++ rest → ⊥
  unfolding met
  met-never rest e r =
      true-not-false (rw (r, take-append_seam) (same_self text)) (met-no _ _ e)

-- nothing is left exactly at the end
all-met : (c to : ℕ) (pool : List ℕ) → c ≤ to → to ≤ length pool → equal c to ≡ same (range c to pool) []
unfolding same
all-met c to pool h k = by_length (range c to pool) (range_length c to pool h k)
  where
    by_length : (r : List ℕ) → length r ≡ to - c → equal c to ≡ same r []
    by_length [] e = equal-yes (omega arith)
    by_length (b ∷ r) e = equal-no (λ q. omega arith)

-- the texts of the symbols before the i-th, but for the first symbol's, were met from `from` up to `c`: what is left decides
pub record Meets (text : ℕ → List ℕ) (xs pool : List ℕ) (from to c i : ℕ) : Type 0 where
  pub begun : 1 ≤ i
  pub rises : c ≤ to
  pub fits : to ≤ length pool
  pub is : same (range c to pool) (joined text (drop i xs)) ≡ same (range from to pool) (joined text (drop 1 xs))

pub meets-none : (text : ℕ → List ℕ) (xs pool : List ℕ) (from to : ℕ) → from ≤ to → to ≤ length pool → Meets text xs pool from to from 1
meets-none text xs pool from to h k = record { begun = omega arith; rises = h; fits = k; is = refl }

module _ {text : ℕ → List ℕ} {xs pool : List ℕ} {from to c i : ℕ} (m : Meets text xs pool from to c i) where
  meets_at : {s : ℕ} → Here xs i s
      → same (range c to pool) (text s ++ joined text (drop (i + 1) xs)) ≡ same (range from to pool) (joined text (drop 1 xs))
  unfolding joined
  meets_at h = sym (ap (λ (l : List ℕ). same (range c to pool) (joined text l)) h.is) ∙ m.is

  pub meets-more : {s c' : ℕ} → Here xs i s → Some c' ≡ met (text s) c to pool → Meets text xs pool from to c' (i + 1)
  meets-more {s} {c'} h e =
      let r = met-rest (text s) c to pool m.rises m.fits c' e in
      record {
        begun = omega arith;
        rises = r.0;
        fits = m.fits;
        is =
            sym (same-front (text s) (range c' to pool) (joined text (drop (i + 1) xs)))
            ∙ ap (λ (l : List ℕ). same l (text s ++ joined text (drop (i + 1) xs))) (sym r.1)
            ∙ meets_at h;
      }

  pub meets-stop : {s : ℕ} → Here xs i s → None ≡ met (text s) c to pool → false ≡ same (range from to pool) (joined text (drop 1 xs))
  meets-stop {s} h e =
      not_so _ (λ t. met-never (text s) c to pool m.rises m.fits _ e (same_true _ _ (meets_at h ∙ t)))

  pub meets-done : length xs ≤ i → equal c to ≡ same (range from to pool) (joined text (drop 1 xs))
  unfolding joined
  meets-done l =
      all-met c to pool m.rises m.fits ∙ ap (λ (r : List ℕ). same (range c to pool) (joined text r)) (sym (drop_of_length-le xs l)) ∙ m.is

-- the name of a symbol, read where its record lies
pub met-spelled : (f syms : List ℕ) (s at to : ℕ) (pool : List ℕ) {name : List ℕ} {o : ℕ} {r : Met} → r ≡ met (ended name) at to pool
    → name ≡ (symbol_at f o).name → o ≡ get_or syms s 0 → r ≡ met (spelled f syms s) at to pool
unfolding symbol_at spelled
met-spelled f syms s at to pool e n o = e ∙ ap (λ (t : List ℕ). met (ended t) at to pool) (n ∙ ap (rest_at f) o)
