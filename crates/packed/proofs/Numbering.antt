-- What the sets of variables stand for: the members of a set are exactly the numbers of the variables that occur in a sequence of symbols.
use Prim.Native.Nat.{ℕ, suc, ◌<◌}
use mathlib.Core.Path.{◌≡◌, refl, sym, ap, ap₂, ◌∙◌}
use mathlib.Core.Bool.{Bool, true, false, ◌||◌}
use lib.Dec.{eqb}
use mathlib.Core.List.Memᴰ
use mathlib.Core.List.{List, [], ◌∷◌, ◌++◌}
use mathlib.Core.Logic.{◌⊎◌, inl, inr}
use Rattle.book.specs.Book.{Substitution, replaced, substituted}
use Rattle.frames.specs.Logic.{equal, pick, either, both, any}
use Rattle.frames.proofs.Chains.{equal-yes, equal-no, equal-true, equal-false, equal-eqb}
use Rattle.frames.specs.Database.{Database}
use Rattle.frames.specs.Facts.{◌∈◌}
use Rattle.bitset.specs.Sets.{member, size, Words, United, Empty, Added}
use Rattle.bitset.proofs.Laws.{same-members}
use Rattle.machine.specs.Ground.{is_variable}
use Rattle.packed.specs.Pool.{is_var}
use Rattle.packed.specs.Images.{set_of, has_member, Gathered, number_in, is_number, Numbers}
use Rattle.packed.proofs.Imaging.{or-either, either-assoc}

-- a member of one list or of the other passes
any_append : (p : ℕ → Bool) (xs ys : List ℕ) → any p (xs ++ ys) ≡ either (any p xs) (any p ys)
unfolding any either
any_append p [] ys = refl
any_append p (x ∷ xs) ys = ap (either (p x)) (any_append p xs ys) ∙ sym (either-assoc (p x) (any p xs) (any p ys))

-- the set united from those of two sequences is that of the one after the other
pub numbers-append : {db : Database} {vs xs ys a b ws : List ℕ} → Numbers db vs xs a → Numbers db vs ys b → United a b ws
    → Numbers db vs (xs ++ ys) ws
numbers-append {db} {vs} {xs} {ys} {a} {b} p q u =
    record {
      exactly = λ n.
          u.exactly n ∙ or-either (member a n) (member b n) ∙ ap₂ either (p.exactly n) (q.exactly n)
          ∙ sym (any_append (is_number db vs n) xs ys);
    }

-- two sets of one sequence have the same members
pub numbers-alike : {db : Database} {vs xs a b : List ℕ} → Numbers db vs xs a → Numbers db vs xs b → (n : ℕ) → member a n ≡ member b n
numbers-alike p q n = p.exactly n ∙ sym (q.exactly n)

-- and where they are of one size, they are the same
pub numbers_same : {db : Database} {vs xs a b : List ℕ} {bits : ℕ} → Words bits a → Words bits b → Numbers db vs xs a → Numbers db vs xs b → a ≡ b
numbers_same wa wb p q = same-members wa wb (numbers-alike p q)

module _ (db : Database) (vs f syms sets : List ℕ) (σ : Substitution) where
  -- n is the number of a variable in what becomes of symbol s exactly when it is a member of the set of its image
  replaced-any : (n s : ℕ) (t : Bool) → is_variable db s ≡ t → is_var f syms s ≡ is_variable db s
      → (is_variable db s ≡ true → Numbers db vs (σ s) (set_of sets s))
      → has_member f syms sets n s ≡ any (is_number db vs n) (replaced t (σ s) s)
  unfolding has_member both replaced any is_number either
  replaced-any n s true e v h = rw (v, e) ((h e).exactly n)
  replaced-any n s false e v h = rw (v, e) refl

  substituted-any : (n : ℕ) (xs : List ℕ) → ((s : ℕ) → s ∈ xs → is_var f syms s ≡ is_variable db s)
      → ((s : ℕ) → s ∈ xs → is_variable db s ≡ true → Numbers db vs (σ s) (set_of sets s))
      → any (has_member f syms sets n) xs ≡ any (is_number db vs n) (substituted (is_variable db) σ xs)
  unfolding any substituted
  substituted-any n [] v h = refl
  substituted-any n (s ∷ ss) v h =
      ap₂ either (replaced-any n s (is_variable db s) refl (v s (Memᴰ.head refl)) (h s (Memᴰ.head refl)))
      (substituted-any n ss (λ r m. v r (Memᴰ.tail m)) (λ r m. h r (Memᴰ.tail m)))
      ∙ sym (any_append (is_number db vs n) (replaced (is_variable db s) (σ s) s) (substituted (is_variable db) σ ss))

  -- the set gathered from the images of the variables of a sequence is that of the sequence as substituted
  pub numbers-substituted : {xs words : List ℕ} → Gathered f syms sets xs words
      → ((s : ℕ) → s ∈ xs → is_var f syms s ≡ is_variable db s)
      → ((s : ℕ) → s ∈ xs → is_variable db s ≡ true → Numbers db vs (σ s) (set_of sets s))
      → Numbers db vs (substituted (is_variable db) σ xs) words
  numbers-substituted {xs} g v h = record { exactly = λ n. g.exactly n ∙ substituted-any n xs v h }

-- a variable has the same number after more variables are numbered
number-kept : (vs ws : List ℕ) (v : ℕ) → v ∈ vs → number_in (vs ++ ws) v ≡ number_in vs v
unfolding number_in pick
number-kept [] ws v m = absurd (Memᴰ.not-nil m)
number-kept (u ∷ vs) ws v m = tried (number-kept vs ws v) (Memᴰ.cases_cons m) (equal u v) refl
  where
    tried : (v ∈ vs → number_in (vs ++ ws) v ≡ number_in vs v) → (v ≡ u) ⊎ (v ∈ vs) → (t : Bool) → equal u v ≡ t
        → pick t 0 (suc (number_in (vs ++ ws) v)) ≡ pick t 0 (suc (number_in vs v))
    tried later w true e = refl
    tried later (inr n) false e = ap suc (later n)
    tried later (inl q) false e = absurd (equal-false u v e (sym q))

-- a test that agrees on every member
any_same : (p q : ℕ → Bool) (xs : List ℕ) → ((x : ℕ) → x ∈ xs → p x ≡ q x) → any p xs ≡ any q xs
unfolding any
any_same p q [] h = refl
any_same p q (x ∷ xs) h = ap₂ either (h x (Memᴰ.head refl)) (any_same p q xs (λ y m. h y (Memᴰ.tail m)))

-- the set of a sequence stays its set when more variables are numbered, if all of its variables have their numbers
pub numbers-grown : {db : Database} {vs xs words : List ℕ} (ws : List ℕ) → ((v : ℕ) → v ∈ xs → is_variable db v ≡ true → v ∈ vs)
    → Numbers db vs xs words → Numbers db (vs ++ ws) xs words
unfolding is_number both
numbers-grown {db} {vs} {xs} {words} ws all' p =
    record { exactly = λ n. p.exactly n ∙ any_same (is_number db vs n) (is_number db (vs ++ ws) n) xs (λ v m. agrees n v m (is_variable db v) refl) }
  where
    agrees : (n v : ℕ) → v ∈ xs → (t : Bool) → is_variable db v ≡ t → both (is_variable db v) (equal (number_in vs v) n) ≡ both (is_variable db v) (equal (number_in (vs ++ ws) v) n)
    agrees n v m true e = rw (number-kept vs ws v (all' v m e))
    agrees n v m false e = rw e

-- the set with the number of one variable alone
pub numbers-one : {db : Database} {vs none' words : List ℕ} {k : ℕ} (v : ℕ) → is_variable db v ≡ true → Empty none' k → number_in vs v < size none'
    → Added none' (number_in vs v) words → Numbers db vs (v ∷ []) words
unfolding any is_number both either
numbers-one {db} {vs} {none'} v var e l a =
    record {
      exactly = λ m.
          a.exactly l m ∙ ap (λ (t : Bool). eqb m (number_in vs v) || t) (e.none m) ∙ or-either (eqb m (number_in vs v)) false
          ∙ alone m;
    }
  where
    alone : (m : ℕ) → either (eqb m (number_in vs v)) false ≡ either (both (is_variable db v) (equal (number_in vs v) m)) false
    alone m = rw var (ap (λ (t : Bool). either t false) (equal-eqb m (number_in vs v) ∙ turned m (equal (number_in vs v) m) refl))
      where
        turned : (j : ℕ) (t : Bool) → equal (number_in vs v) j ≡ t → equal j (number_in vs v) ≡ t
        turned j true q = equal-yes (sym (equal-true _ _ q))
        turned j false q = equal-no (λ n. equal-false _ _ q (sym n))
