-- The set of a statement's variables by their numbers: a symbol adds its number or nothing, and the loop gathers them one by one.
use Prim.Native.Nat.{ℕ, ◌+◌, ◌-◌, ◌≤◌, ◌<◌}
use mathlib.Core.Path.{◌≡◌, refl, sym, ◌∙◌, ap}
use mathlib.Core.Bool.{Bool, true, false}
use mathlib.Core.List.{List}
use native.Mathlib.Omega.{arith}
use lib.Dec.{eqb}
use lib.ListN.{length, get_or, drop, drop_of_length-le}
use Rattle.frames.specs.Logic.{equal, either, both, any}
use Rattle.frames.proofs.Chains.{equal-yes, equal-no, equal-true, equal-false, equal-eqb, below_true, below_false}
use Rattle.frames.specs.Logic.{below}
use Rattle.frames.proofs.Loops.{Here}
use Rattle.bitset.specs.Sets.{member, size, empty, Empty, Added}
use Rattle.bitset.proofs.Laws.{insert-size}
use Rattle.packed.specs.Pool.{is_var}
use Rattle.packed.proofs.Imaging.{or-either}
use Rattle.engine.specs.RawSet.{numbers_as, Marks, RawGathered}

unnumbered : (f syms table : List ℕ) (n s : ℕ) → is_var f syms s ≡ false → numbers_as f syms table n s ≡ false
unfolding numbers_as both
unnumbered f syms table n s e = rw e refl

pub marks-constant : (f syms table : List ℕ) (s : ℕ) (words : List ℕ) → is_var f syms s ≡ false → Marks f syms table s words words
unfolding either
marks-constant f syms table s words e = record { sized = refl; exactly = λ n l. rw (unnumbered f syms table n s e) refl }

no_number : (f syms table : List ℕ) (n s : ℕ) → get_or table s 0 ≤ 0 → numbers_as f syms table n s ≡ false
unfolding numbers_as both
no_number f syms table n s z = tried (is_var f syms s)
  where
    tried : (t : Bool) → both t (equal (get_or table s 0) (n + 1)) ≡ false
    tried true = equal-no (λ e. omega arith)
    tried false = refl

pub marks-nothing : (f syms table : List ℕ) (s : ℕ) (words : List ℕ) → get_or table s 0 ≤ 0 → Marks f syms table s words words
unfolding either
marks-nothing f syms table s words z = record { sized = refl; exactly = λ n l. rw (no_number f syms table n s z) refl }

its-number : (f syms table : List ℕ) (n s k : ℕ) → is_var f syms s ≡ true → k ≡ get_or table s 0 → 0 < k → numbers_as f syms table n s ≡ equal n (k - 1)
unfolding numbers_as both
its-number f syms table n s k e g l = rw e (tried (equal n (k - 1)) refl)
  where
    tried : (t : Bool) → equal n (k - 1) ≡ t → equal (get_or table s 0) (n + 1) ≡ t
    tried true q = equal-yes (omega (arith, equal-true _ _ q))
    tried false q = equal-no (λ w. equal-false _ _ q (omega arith))

alone : (t : Bool) → either false t ≡ t
unfolding either
alone t = refl

pub marks-number : (f syms table : List ℕ) (s k : ℕ) {words words' : List ℕ} → is_var f syms s ≡ true → k ≡ get_or table s 0 → 0 < k
    → Added words (k - 1) words' → Marks f syms table s words words'
marks-number f syms table s k {words} {words'} e g l a =
    record {
      sized = ap size a.is ∙ insert-size words (k - 1);
      exactly = λ n h. told n h (below (k - 1) (size words)) refl;
    }
  where
    told : (n : ℕ) → n < size words → (t : Bool) → below (k - 1) (size words) ≡ t
        → member words' n ≡ either (numbers_as f syms table n s) (member words n)
    told n h true q =
        a.exactly (below_true _ _ q) n ∙ or-either (eqb n (k - 1)) (member words n)
        ∙ ap (λ (t : Bool). either t (member words n)) (equal-eqb n (k - 1) ∙ sym (its-number f syms table n s k e g l))
    told n h false q =
        let past = below_false _ _ q in
        let not-it : equal n (k - 1) ≡ false = equal-no (λ w. omega arith) in
        ap (λ (ws : List ℕ). member ws n) (a.refused past)
        ∙ sym (ap (λ (t : Bool). either t (member words n)) (its-number f syms table n s k e g l ∙ not-it) ∙ alone (member words n))

-- what was gathered up to i and what the rest has is what all have
pub record RawTo (f syms table xs : List ℕ) (i : ℕ) (words : List ℕ) : Type 0 where
  pub sized : size words ≡ 256
  pub is : (n : ℕ) → n < 256 → either (member words n) (any (numbers_as f syms table n) (drop i xs)) ≡ any (numbers_as f syms table n) (drop 1 xs)

pub raw-none : (f syms table xs : List ℕ) {words : List ℕ} → Empty words 4 → RawTo f syms table xs 1 words
unfolding either size empty
raw-none f syms table xs h = record { sized = ap size h.is; is = λ n l. rw (h.none n) refl }

swapped : (a b c : Bool) → either (either a b) c ≡ either b (either a c)
unfolding either
swapped true true c = refl
swapped true false c = refl
swapped false b c = refl

pub raw-more : {f syms table xs words words' : List ℕ} {i s : ℕ} → RawTo f syms table xs i words → Here xs i s → Marks f syms table s words words'
    → RawTo f syms table xs (i + 1) words'
unfolding any
raw-more {f} {syms} {table} {xs} {words} {words'} {i} {s} g h m = record { sized = m.sized ∙ g.sized; is = step }
  where
    step : (n : ℕ) → n < 256 → either (member words' n) (any (numbers_as f syms table n) (drop (i + 1) xs)) ≡ any (numbers_as f syms table n) (drop 1 xs)
    step n l =
        let p = numbers_as f syms table n in
        let size_is = g.sized in
        rw (m.exactly n (omega arith), swapped (p s) (member words n) (any p (drop (i + 1) xs)))
        (sym (ap (λ (r : List ℕ). either (member words n) (any p r)) h.is) ∙ g.is n l)

either-none : (a : Bool) → either a false ≡ a
unfolding either
either-none true = refl
either-none false = refl

pub raw-done : {f syms table xs words : List ℕ} {i : ℕ} → RawTo f syms table xs i words → length xs ≤ i → RawGathered f syms table (drop 1 xs) words
unfolding any
raw-done {f} {syms} {table} {xs} {words} {i} g l =
    record {
      exactly = λ n h.
          sym (ap (λ (r : List ℕ). either (member words n) (any (numbers_as f syms table n) r)) (drop_of_length-le xs l) ∙ either-none (member words n))
          ∙ g.is n h;
    }
