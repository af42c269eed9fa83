-- The invariants of the two loops: what is summed so far and the words that are left make the application's size (`Summed`); what is left of the pass takes the
-- table so far on to the whole table (`Passed`).
use Prim.Native.Nat.{ℕ, zero, suc, ◌+◌, ◌-◌, ◌≤◌, ◌<◌}
use mathlib.Core.Path.{◌≡◌, refl, sym, ◌∙◌, ap}
use mathlib.Core.List.{List}
use native.Mathlib.Omega.{arith}
use lib.ListN.{length, get_or, set, length-set}
use Rattle.sizes.specs.Measured.{capped, label_size_at, size_at, words_size, words_at, application_size, measured_from}
use Rattle.sizes.proofs.Caps.{capped-few, capped_small, capped_left}
use Rattle.sizes.proofs.Measuring.{measured-end, measured-turn}

-- a size fits a table of 32 bits
pub application-few : (f entries sizes : List ℕ) (from : ℕ) → application_size f entries sizes from ≤ 65538
unfolding application_size
application-few f entries sizes from = capped-few _

-- i words are summed, and so many are left
pub record Summed (f entries sizes : List ℕ) (from n sum i : ℕ) : Type 0 where
  pub left : ℕ
  pub counted : i + left ≡ n
  pub few : sum ≤ 65538
  pub is : capped (sum + words_size f entries sizes left (from + 1 + i)) ≡ application_size f entries sizes from

module _ (f entries sizes : List ℕ) (from : ℕ) where
  pub summed-none : {n sum : ℕ} → n ≡ words_at f entries from → sum ≡ label_size_at f (get_or entries from 0) → Summed f entries sizes from n sum 0
  unfolding application_size label_size_at
  summed-none {n} {sum} count is =
      record {
        left = n;
        counted = omega arith;
        few = rw is (capped-few _);
        is = let e : from + 1 + 0 ≡ from + 1 = omega arith in rw (e, is, count) refl;
      }

  words-split : (left at : ℕ) → 0 < left → words_size f entries sizes left at ≡ size_at f sizes (get_or entries at 0) + words_size f entries sizes (left - 1) (at + 1)
  unfolding words_size
  words-split zero at some = absurd (omega arith)
  words-split (suc left) at some = let e : suc left - 1 ≡ left = omega arith in rw e refl

  pub summed-more : {n sum i word size sum' : ℕ} → Summed f entries sizes from n sum i → i < n → word ≡ get_or entries (from + 1 + i) 0 → size ≡ size_at f sizes word
      → sum' ≡ capped (sum + size) → Summed f entries sizes from n sum' (i + 1)
  summed-more {n} {sum} {i} {word} {size} {sum'} s inside here of_word adds =
      let counted = s.counted in
      let split = words-split s.left (from + 1 + i) (omega arith) in
      let taken = of_word ∙ ap (size_at f sizes) here in
      let on : from + 1 + (i + 1) ≡ from + 1 + i + 1 = omega arith in
      let rest = words_size f entries sizes (s.left - 1) (from + 1 + i + 1) in
      let together : sum + size + rest ≡ sum + words_size f entries sizes s.left (from + 1 + i) = omega arith in
      record {
        left = s.left - 1;
        counted = omega arith;
        few = rw adds (capped-few _);
        is = rw (adds, on) (capped_left (sum + size) rest ∙ ap capped together ∙ s.is);
      }

  pub summed-all : {n sum i : ℕ} → Summed f entries sizes from n sum i → n ≤ i → sum ≡ application_size f entries sizes from
  unfolding words_size
  summed-all {sum = sum} {i} s past =
      let counted = s.counted in
      let none : s.left ≡ 0 = omega arith in
      let alone : sum + 0 ≡ sum = omega arith in
      sym (capped_small sum s.few) ∙ rw (none, alone) at s.is

-- the pass stands at `at`, with this table
pub record Passed (f entries : List ℕ) (n : ℕ) (sizes₀ sizes : List ℕ) (at : ℕ) : Type 0 where
  pub turns : ℕ
  pub enough : n ≤ at + turns
  pub sized : length sizes ≡ length sizes₀
  pub is : measured_from f entries n turns at sizes ≡ measured_from f entries n n 0 sizes₀

module _ (f entries : List ℕ) (n : ℕ) where
  pub passed_none : (sizes : List ℕ) → Passed f entries n sizes sizes 0
  passed_none sizes = record { turns = n; enough = omega arith; sized = refl; is = refl }

  pub passed-more : {sizes₀ sizes : List ℕ} {at size count next : ℕ} → Passed f entries n sizes₀ sizes at → at < n → size ≡ application_size f entries sizes at
      → count ≡ words_at f entries at → next ≡ at + 1 + count → Passed f entries n sizes₀ (set sizes at size) next
  passed-more {sizes₀} {sizes} {at} {size} {count} {next} s inside measured counted moves =
      let enough = s.enough in
      record {
        turns = s.turns - 1;
        enough = omega arith;
        sized = length-set sizes at size ∙ s.sized;
        is = rw (moves, counted, measured) (sym (measured-turn f entries n s.turns at sizes inside enough) ∙ s.is);
      }

  pub passed-all : {sizes₀ sizes : List ℕ} {at : ℕ} → Passed f entries n sizes₀ sizes at → n ≤ at → sizes ≡ measured_from f entries n n 0 sizes₀
  passed-all {sizes = sizes} {at} s past = sym (measured-end f entries n s.turns at sizes past) ∙ s.is
