-- The words that are put into the tree one after another.
use Prim.Native.Nat.{ℕ, ◌+◌, ◌*◌, ◌≤◌, ◌<◌, ◌%◌}
use mathlib.Core.Path.{◌≡◌, refl, ◌∙◌}
use mathlib.Core.Bool.{Bool, true, false}
use mathlib.Core.List.{List}
use native.Mathlib.Omega.{arith}
use lib.ListN.{length, get_or, set, length-set}
use lib.Seq.{get_or-set_same, get_or-set_other}
use Rattle.frames.specs.Logic.{equal, below}
use Rattle.frames.proofs.Chains.{equal-true, equal-false, below_true, below_false}
use Rattle.memory.specs.Table.{word}
use Rattle.recording.specs.Notes.{seat_node, PutsNodes, Notes}

-- the word that is read
pub seat-node : (stack seats : List ℕ) (base i j : ℕ) {x : ℕ} → x ≡ get_or stack (10 * (base + i % 64) + 5) 0 → i ≡ get_or seats j 0 → x ≡ seat_node stack base seats j
unfolding word
seat-node stack seats base i j e g = rw (← g) e

below_last : {j n : ℕ} → j < n + 1 → (j ≡ n → ⊥) → j < n
below_last {j} {n} l g = by (below j n) refl
  where
    by : (t : Bool) → below j n ≡ t → j < n
    by true e = below_true _ _ e
    by false e = let h = below_false _ _ e in absurd (g (omega arith))

module _ {stack : List ℕ} {base : ℕ} {seats tree : List ℕ} {from : ℕ} where
  pub puts_none : PutsNodes stack base seats 0 tree from tree
  puts_none = record { sized = refl; same = λ i l. refl; puts = λ j l. absurd (omega arith) }

  -- it is said of no more
  pub puts-fewer : {n k : ℕ} {now : List ℕ} → k ≤ n → PutsNodes stack base seats n tree from now → PutsNodes stack base seats k tree from now
  puts-fewer l p = record { sized = p.sized; same = p.same; puts = λ j m. p.puts j (omega arith) }

  pub puts-more : {n x : ℕ} {now : List ℕ} → PutsNodes stack base seats n tree from now → from + n < length now → x ≡ seat_node stack base seats n
      → PutsNodes stack base seats (n + 1) tree from (set now (from + n) x)
  puts-more {n} {x} {now} p fits is =
      record {
        sized = length-set now (from + n) x ∙ p.sized;
        same = λ i l. get_or-set_other now (from + n) i x 0 (λ e. absurd (omega arith)) ∙ p.same i l;
        puts = λ j l. by j l (equal j n) refl;
      }
    where
      by : (j : ℕ) → j < n + 1 → (t : Bool) → equal j n ≡ t → get_or (set now (from + n) x) (from + j) 0 ≡ seat_node stack base seats j
      by j l true e = let g = equal-true _ _ e in rw g (get_or-set_same now (from + n) x 0 fits ∙ is)
      by j l false e = let g = equal-false _ _ e in get_or-set_other now (from + n) (from + j) x 0 (λ q. g (omega arith)) ∙ p.puts j (below_last l g)

module _ {stack : List ℕ} {base : ℕ} {seats tree : List ℕ} where
  pub notes-lost : {at n used : ℕ} → length tree < used → Notes at stack base seats n tree used tree (record { word = 0; nodes = used })
  notes-lost few =
      record {
        sized = refl;
        same = λ i l. refl;
        few = omega arith;
        sooner = λ l. absurd (omega arith);
        nodes_is = λ l. absurd (omega arith);
        word_is = λ l. absurd (omega arith);
        heads = λ l. absurd (omega arith);
        puts = λ l j m. absurd (omega arith);
      }

  pub notes-short : {at n used : ℕ} → used ≤ length tree → length tree < used + 1 + n → Notes at stack base seats n tree used tree (record { word = 2 * used + 1; nodes = used + 1 + n })
  notes-short below few =
      record {
        sized = refl;
        same = λ i l. refl;
        few = omega arith;
        sooner = λ l. below;
        nodes_is = λ l. refl;
        word_is = λ l. refl;
        heads = λ l. absurd (omega arith);
        puts = λ l j m. absurd (omega arith);
      }

  pub notes-put : {at n used : ℕ} {tree' : List ℕ} → used + 1 + n ≤ length tree
      → PutsNodes stack base seats n (set tree used at) (used + 1) tree' → Notes at stack base seats n tree used tree' (record { word = 2 * used + 1; nodes = used + 1 + n })
  notes-put {at} {used = used} fits p =
      record {
        sized = p.sized ∙ length-set tree used at;
        same = λ i l. p.same i (omega arith) ∙ get_or-set_other tree used i at 0 (λ e. absurd (omega arith));
        few = omega arith;
        sooner = λ l. omega arith;
        nodes_is = λ l. refl;
        word_is = λ l. refl;
        heads = λ l. p.same used (omega arith) ∙ get_or-set_same tree used at 0 (omega arith);
        puts = λ l j m. p.puts j m;
      }
