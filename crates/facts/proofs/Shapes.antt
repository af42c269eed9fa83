-- How many symbols, hypotheses and pairs a record lists, by its kind; and what a strictly rising list is.
use Prim.Native.Nat.{ℕ, zero, suc, ◌≤◌, ◌<◌}
use mathlib.Core.Path.{◌≡◌, refl, sym, ◌∙◌}
use mathlib.Core.Bool.{Bool, true, false}
use mathlib.Core.List.Memᴰ
use mathlib.Core.List.{List, [], ◌∷◌}
use native.Mathlib.Omega.{arith}
use lib.ListN.{length, take, get_or, length-take}
use Rattle.frames.specs.Logic.{at_most, equal, pick, rising_from, rows}
use Rattle.frames.specs.Layout.{u16, u32, kind_at, asserts, hyp_count, pair_count, listed_count, lists_from, pairs_from, hyps_at, pair_at, pairs_at, symbol_count, symbols_from, symbols_at}
use Rattle.frames.specs.Table.{no_symbols}
use Rattle.frames.specs.Facts.{◌∈◌}
use Rattle.frames.proofs.Chains.{pick_first, equal-yes, equal-false, at_most-true}
use Rattle.frames.proofs.Tells.{not-zero, both_true, both_false}
use Rattle.frames.proofs.Loops.{length-rows}
use Rattle.frames.proofs.Fine.{WellFormed}
use Rattle.facts.proofs.Kept.{pick-cases}
use Rattle.facts.proofs.Decoded.{lists-yes}

-- what lists nothing where the test fails, and has a member, passed the test
listed-passes : {A : Type 0} {x : A} (xs : List A) (t : Bool) → (t ≡ false → xs ≡ []) → x ∈ xs → t ≡ true
listed-passes xs true none m = refl
listed-passes xs false none m = absurd (Memᴰ.not-nil (rw (none refl) at m))

-- a list of which each member had room has no more than there is room for
pub had-room : (xs : List ℕ) (most : ℕ) → ((i : ℕ) → i < length xs → length (take i xs) < most) → length xs ≤ most
had-room xs most room = here (length xs) refl
  where
    here : (n : ℕ) → length xs ≡ n → n ≤ most
    here zero e = omega arith
    here (suc n) e = omega (arith, length-take n xs, room n (omega arith))

module _ (f : List ℕ) (o : ℕ) where
  pub symbols-count : length (symbols_at f o) ≡ symbol_count f o
  unfolding symbols_at
  symbols-count = length-rows (u16 f) 2 (symbol_count f o) (symbols_from f o)

  pub hyps-count : length (hyps_at f o) ≡ hyp_count f o
  unfolding hyps_at
  hyps-count = length-rows (u32 f) 4 (hyp_count f o) (lists_from f o)

  pub pairs-count : length (pairs_at f o) ≡ pair_count f o
  unfolding pairs_at
  pairs-count = length-rows (pair_at f) 4 (pair_count f o) (pairs_from f o)

  -- a $f has two symbols
  pub float-two : kind_at f o ≡ 2 → length (symbols_at f o) ≡ 2
  unfolding symbol_count
  float-two k = symbols-count ∙ sym (pick_first (listed_count f o) (equal-yes k) refl)

  -- every statement has one
  pub symbols_some : WellFormed f o → 2 ≤ kind_at f o → kind_at f o ≤ 5 → 1 ≤ length (symbols_at f o)
  unfolding symbol_count no_symbols
  symbols_some w low high =
      rw symbols-count
      (pick-cases (λ n. 1 ≤ n) (equal (kind_at f o) 2) 2 (listed_count f o) (λ e. omega arith)
      (λ e.
      let n = equal-false _ _ e in
      not-zero (listed_count f o) (equal-false _ _ (both_false _ _ w.symbols (lists-yes (kind_at f o) (omega arith) high)))))

  pub symbols-most : listed_count f o ≤ 1024 → length (symbols_at f o) ≤ 1024
  unfolding symbol_count
  symbols-most h =
      rw symbols-count (pick-cases (λ n. n ≤ 1024) (equal (kind_at f o) 2) 2 (listed_count f o) (λ e. omega arith) (λ e. h))

  -- only a $a or $p lists hypotheses and pairs
  pub hyps-none : asserts (kind_at f o) ≡ false → hyps_at f o ≡ []
  unfolding hyps_at hyp_count pick rows
  hyps-none e = rw e refl

  pub pairs-none : asserts (kind_at f o) ≡ false → pairs_at f o ≡ []
  unfolding pairs_at pair_count pick rows
  pairs-none e = rw e refl

  pub hyp-asserts : (h : ℕ) → h ∈ hyps_at f o → asserts (kind_at f o) ≡ true
  hyp-asserts h m = listed-passes (hyps_at f o) (asserts (kind_at f o)) hyps-none m

  pub pair-asserts : (q : ℕ × ℕ) → q ∈ pairs_at f o → asserts (kind_at f o) ≡ true
  pair-asserts q m = listed-passes (pairs_at f o) (asserts (kind_at f o)) pairs-none m

-- a rising list is nowhere below its bound
rising-least : (low : ℕ) (xs : List ℕ) (i : ℕ) → rising_from low xs ≡ true → i < length xs → low ≤ get_or xs i 0
unfolding rising_from
rising-least low [] i e h = absurd (omega arith)
rising-least low (x ∷ xs) zero e h = at_most-true _ _ (both_true _ _ e).0
rising-least low (x ∷ xs) (suc i) e h =
    let b = both_true (at_most low x) (rising_from (suc x) xs) e in
    omega (arith, at_most-true _ _ b.0, rising-least (suc x) xs i b.1 (omega arith))

-- and rises from each member to each later one
pub rising-strict : (low : ℕ) (xs : List ℕ) → rising_from low xs ≡ true → (i j : ℕ) → i < j → j < length xs
    → get_or xs i 0 < get_or xs j 0
unfolding rising_from
rising-strict low [] e i j l h = absurd (omega arith)
rising-strict low (x ∷ xs) e i zero l h = absurd (omega arith)
rising-strict low (x ∷ xs) e zero (suc j) l h = rising-least (suc x) xs j (both_true _ _ e).1 (omega arith)
rising-strict low (x ∷ xs) e (suc i) (suc j) l h = rising-strict (suc x) xs (both_true _ _ e).1 i j (omega arith) (omega arith)
