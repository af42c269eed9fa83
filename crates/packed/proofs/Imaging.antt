-- The table of images: what is read after a set was stored, and the set that a loop gathers symbol by symbol.
use Prim.Native.Nat.{ℕ, ◌+◌, ◌*◌, ◌≤◌, ◌<◌}
use mathlib.Core.Path.{◌≡◌, refl, sym, ap, ◌∙◌}
use mathlib.Core.Bool.{Bool, true, false, ◌||◌}
use mathlib.Core.List.{List, [], ◌∷◌}
use native.Mathlib.Omega.{arith}
use lib.ListN.{length, get_or, set, drop, length-set, drop_of_length-le}
use lib.Seq.{get_or-set_same, get_or-set_other}
use Rattle.frames.specs.Logic.{either, both, any}
use Rattle.frames.proofs.Loops.{Here}
use Rattle.bitset.specs.Sets.{member, Empty, United}
use Rattle.packed.specs.Pool.{is_var}
use Rattle.packed.specs.Images.{set_words, set_of, store_set, has_member, Included, Gathered}

-- a list with one word stored at b
one : List ℕ → ℕ → ℕ → List ℕ
one l b w₀ = set l b w₀

-- with two words stored from b on
two : List ℕ → ℕ → ℕ → ℕ → List ℕ
two l b w₀ w₁ = set (one l b w₀) (b + 1) w₁

-- with three words stored from b on
three : List ℕ → ℕ → ℕ → ℕ → ℕ → List ℕ
three l b w₀ w₁ w₂ = set (two l b w₀ w₁) (b + 2) w₂

-- with four words stored from b on
four : List ℕ → ℕ → ℕ → ℕ → ℕ → ℕ → List ℕ
four l b w₀ w₁ w₂ w₃ = set (three l b w₀ w₁ w₂) (b + 3) w₃

-- what stands at the four places after four words were stored there, and at any other
module _ (l : List ℕ) (b w₀ w₁ w₂ w₃ : ℕ) where
  stored-0 : b + 3 < length l → get_or (four l b w₀ w₁ w₂ w₃) b 0 ≡ w₀
  unfolding one two three four
  stored-0 h =
      get_or-set_other (three l b w₀ w₁ w₂) (b + 3) b w₃ 0 (λ q. omega arith)
      ∙ get_or-set_other (two l b w₀ w₁) (b + 2) b w₂ 0 (λ q. omega arith)
      ∙ get_or-set_other (one l b w₀) (b + 1) b w₁ 0 (λ q. omega arith)
      ∙ get_or-set_same l b w₀ 0 (omega arith)

  stored-1 : b + 3 < length l → get_or (four l b w₀ w₁ w₂ w₃) (b + 1) 0 ≡ w₁
  unfolding one two three four
  stored-1 h =
      get_or-set_other (three l b w₀ w₁ w₂) (b + 3) (b + 1) w₃ 0 (λ q. omega arith)
      ∙ get_or-set_other (two l b w₀ w₁) (b + 2) (b + 1) w₂ 0 (λ q. omega arith)
      ∙ get_or-set_same (one l b w₀) (b + 1) w₁ 0 (simp length-set (omega arith))

  stored-2 : b + 3 < length l → get_or (four l b w₀ w₁ w₂ w₃) (b + 2) 0 ≡ w₂
  unfolding one two three four
  stored-2 h =
      get_or-set_other (three l b w₀ w₁ w₂) (b + 3) (b + 2) w₃ 0 (λ q. omega arith)
      ∙ get_or-set_same (two l b w₀ w₁) (b + 2) w₂ 0 (simp length-set (omega arith))

  stored-3 : b + 3 < length l → get_or (four l b w₀ w₁ w₂ w₃) (b + 3) 0 ≡ w₃
  unfolding one two three four
  stored-3 h = get_or-set_same (three l b w₀ w₁ w₂) (b + 3) w₃ 0 (simp length-set (omega arith))

  stored-outside : (i : ℕ) → ((k : ℕ) → k < set_words → i ≡ b + k → ⊥) → get_or (four l b w₀ w₁ w₂ w₃) i 0 ≡ get_or l i 0
  unfolding one two three four
  stored-outside i h =
      get_or-set_other (three l b w₀ w₁ w₂) (b + 3) i w₃ 0 (h 3 (omega arith))
      ∙ get_or-set_other (two l b w₀ w₁) (b + 2) i w₂ 0 (h 2 (omega arith))
      ∙ get_or-set_other (one l b w₀) (b + 1) i w₁ 0 (h 1 (omega arith))
      ∙ get_or-set_other l b i w₀ 0 (λ q. h 0 (omega arith) (omega arith))

-- a list of four words, by its words
pub four-words : (ws : List ℕ) → length ws ≡ set_words → get_or ws 0 0 ∷ get_or ws 1 0 ∷ get_or ws 2 0 ∷ get_or ws 3 0 ∷ [] ≡ ws
four-words [] e = absurd (omega arith)
four-words (a ∷ []) e = absurd (omega arith)
four-words (a ∷ b ∷ []) e = absurd (omega arith)
four-words (a ∷ b ∷ c ∷ []) e = absurd (omega arith)
four-words (a ∷ b ∷ c ∷ d ∷ []) e = refl
four-words (a ∷ b ∷ c ∷ d ∷ x ∷ xs) e = absurd (omega arith)

-- at the symbol whose set was stored stands that set
pub stored_same : (sets : List ℕ) (s : ℕ) (ws : List ℕ) → length ws ≡ set_words → set_words * s + 3 < length sets → set_of (store_set sets s ws) s ≡ ws
unfolding set_of store_set one two three four
stored_same sets s ws e l =
    let a = stored-0 sets (set_words * s) (get_or ws 0 0) (get_or ws 1 0) (get_or ws 2 0) (get_or ws 3 0) l in
    let b = stored-1 sets (set_words * s) (get_or ws 0 0) (get_or ws 1 0) (get_or ws 2 0) (get_or ws 3 0) l in
    let c = stored-2 sets (set_words * s) (get_or ws 0 0) (get_or ws 1 0) (get_or ws 2 0) (get_or ws 3 0) l in
    let d = stored-3 sets (set_words * s) (get_or ws 0 0) (get_or ws 1 0) (get_or ws 2 0) (get_or ws 3 0) l in
    cc (four-words ws e)

-- four stores, one after another
pub stored-by : (sets : List ℕ) (s : ℕ) (ws : List ℕ) {l₁ l₂ l₃ l₄ : List ℕ} → l₁ ≡ set sets (set_words * s) (get_or ws 0 0)
    → l₂ ≡ set l₁ (set_words * s + 1) (get_or ws 1 0) → l₃ ≡ set l₂ (set_words * s + 2) (get_or ws 2 0) → l₄ ≡ set l₃ (set_words * s + 3) (get_or ws 3 0)
    → l₄ ≡ store_set sets s ws
unfolding store_set
stored-by sets s ws a b c d = cc

-- at another symbol stands what stood there before
pub stored_other : (sets : List ℕ) (s t : ℕ) (ws : List ℕ) → (t ≡ s → ⊥) → set_of (store_set sets s ws) t ≡ set_of sets t
unfolding set_of store_set one two three four
stored_other sets s t ws h =
    let a = kept (set_words * t) (λ k l q. h (omega arith)) in
    let b = kept (set_words * t + 1) (λ k l q. h (omega arith)) in
    let c = kept (set_words * t + 2) (λ k l q. h (omega arith)) in
    let d = kept (set_words * t + 3) (λ k l q. h (omega arith)) in
    cc
  where
    kept : (i : ℕ) → ((k : ℕ) → k < set_words → i ≡ set_words * s + k → ⊥) → get_or (store_set sets s ws) i 0 ≡ get_or sets i 0
    kept = stored-outside sets (set_words * s) (get_or ws 0 0) (get_or ws 1 0) (get_or ws 2 0) (get_or ws 3 0)

-- the table keeps its length
pub stored-length : (sets : List ℕ) (s : ℕ) (ws : List ℕ) → length (store_set sets s ws) ≡ length sets
unfolding store_set
stored-length sets s ws = simp length-set

-- the two words for one of two tests are the same
pub or-either : (a b : Bool) → (a || b) ≡ either a b
unfolding either
or-either true b = refl
or-either false b = refl

pub either-assoc : (a b c : Bool) → either (either a b) c ≡ either a (either b c)
unfolding either
either-assoc true b c = refl
either-assoc false b c = refl

either-none : (a : Bool) → either a false ≡ a
unfolding either
either-none true = refl
either-none false = refl

-- a variable adds the members of its image
pub included-yes : (f syms sets : List ℕ) (s : ℕ) {words words' : List ℕ} → is_var f syms s ≡ true → United words (set_of sets s) words'
    → Included f syms sets s words words'
unfolding has_member both
included-yes f syms sets s {words} e u =
    record { exactly = λ n. u.exactly n ∙ or-either (member words n) (member (set_of sets s) n) ∙ rw e refl }

-- a constant adds nothing
pub included-no : (f syms sets : List ℕ) (s : ℕ) (words : List ℕ) → is_var f syms s ≡ false → Included f syms sets s words words
unfolding has_member both
included-no f syms sets s words e = record { exactly = λ n. rw e (sym (either-none (member words n))) }

-- what was gathered up to i and what the rest has is what all have
pub record GatheredTo (f syms sets xs : List ℕ) (i : ℕ) (words : List ℕ) : Type 0 where
  pub is : (n : ℕ) → either (member words n) (any (has_member f syms sets n) (drop i xs)) ≡ any (has_member f syms sets n) (drop 1 xs)

pub gathered_none : (f syms sets xs : List ℕ) {words : List ℕ} {k : ℕ} → Empty words k → GatheredTo f syms sets xs 1 words
unfolding either
gathered_none f syms sets xs h = record { is = λ n. rw (h.none n) refl }

pub gathered-more : {f syms sets xs words words' : List ℕ} {i s : ℕ} → GatheredTo f syms sets xs i words → Here xs i s
    → Included f syms sets s words words' → GatheredTo f syms sets xs (i + 1) words'
unfolding any
gathered-more {f} {syms} {sets} {xs} {words} {words'} {i} {s} g h j = record { is = step }
  where
    step : (n : ℕ) → either (member words' n) (any (has_member f syms sets n) (drop (i + 1) xs)) ≡ any (has_member f syms sets n) (drop 1 xs)
    step n =
        let p = has_member f syms sets n in
        rw (j.exactly n, either-assoc (member words n) (p s) (any p (drop (i + 1) xs)))
        (sym (ap (λ (l : List ℕ). either (member words n) (any p l)) h.is) ∙ g.is n)

pub gathered-done : {f syms sets xs words : List ℕ} {i : ℕ} → GatheredTo f syms sets xs i words → length xs ≤ i
    → Gathered f syms sets (drop 1 xs) words
unfolding any
gathered-done {f} {syms} {sets} {xs} {words} {i} g l =
    record {
      exactly = λ n. sym (ap (λ (r : List ℕ). either (member words n) (any (has_member f syms sets n) r)) (drop_of_length-le xs l)
          ∙ either-none (member words n)) ∙ g.is n;
    }
