-- Laws of packing: the text of a symbol is never the beginning of another's, so a packed expression says which symbols it was made of; its
-- length is what the expression costs; joining and substituting are done on the packed texts.
use Prim.Native.Nat.{ℕ, zero, suc, ◌+◌, ◌-◌, ◌%◌, ◌≤◌, ◌<◌}
use mathlib.Core.Path.{◌≡◌, refl, sym, ap, ap₂}
use mathlib.Core.Bool.{Bool, true, false}
use mathlib.Core.Logic.{◌⊎◌, inl, inr}
use mathlib.Core.List.Memᴰ
use mathlib.Core.List.{List, [], ◌∷◌, ◌++◌, append_assoc, append-nil}
use native.Mathlib.Numerals.{unary_clauses}
use native.Mathlib.Omega.{arith}
use lib.ListN.{length, get_or, length-append}
use Rattle.book.specs.Book.{Substitution, replaced, substituted}
use Rattle.frames.specs.Logic.{pick, same}
use Rattle.frames.specs.Database.{Database}
use Rattle.frames.specs.Facts.{◌∈◌, symbol_of, Facts}
use Rattle.frames.proofs.Found.{same_true, same_self}
use Rattle.machine.specs.Ground.{is_variable}
use Rattle.machine.specs.Memory.{cost}
use Rattle.packed.specs.Packing.{ended, packed_symbol, packed}

-- the mark keeps the length of a name
pub ended-length : (name : List ℕ) → length (ended name) ≡ length name
unfolding ended
ended-length [] = refl
ended-length (b ∷ []) = refl
ended-length (b ∷ c ∷ cs) = ap suc (ended-length (c ∷ cs))

-- the last byte is marked
pub ended-last : (name : List ℕ) → 1 ≤ length name → 128 ≤ get_or (ended name) (length name - 1) 0
unfolding ended
ended-last [] h = absurd (omega arith)
ended-last (b ∷ []) h = omega arith
ended-last (b ∷ c ∷ cs) h = simp unary_clauses (simp unary_clauses at (ended-last (c ∷ cs) (omega arith)))

-- so they are below 128
pub ended-low : (name : List ℕ) → ((b : ℕ) → b ∈ name → b < 128) → (i : ℕ) → i + 1 < length name → get_or (ended name) i 0 < 128
unfolding ended
ended-low [] low i h = absurd (omega arith)
ended-low (b ∷ []) low i h = absurd (omega arith)
ended-low (b ∷ c ∷ cs) low zero h = low b (Memᴰ.head refl)
ended-low (b ∷ c ∷ cs) low (suc i) h = ended-low (c ∷ cs) (λ e n. low e (Memᴰ.tail n)) i (omega arith)

-- every byte of a marked name is below 256
pub ended-bytes : (name : List ℕ) → ((b : ℕ) → b ∈ name → b < 128) → (b : ℕ) → b ∈ ended name → b < 256
unfolding ended
ended-bytes [] low b m = absurd (Memᴰ.not-nil m)
ended-bytes (a ∷ []) low b m = omega (arith, Memᴰ.eq_of_singleton m)
ended-bytes (a ∷ c ∷ cs) low b m = there (ended-bytes (c ∷ cs) (λ e n. low e (Memᴰ.tail n)) b) (Memᴰ.cases_cons m)
  where
    there : (b ∈ ended (c ∷ cs) → b < 256) → (b ≡ a) ⊎ (b ∈ ended (c ∷ cs)) → b < 256
    there later (inl e) = omega (arith, low a (Memᴰ.head refl))
    there later (inr n) = later n

-- of two texts that begin with marked names, equal texts have equal names and equal rests
pub ended-apart : (n m x y : List ℕ) → ((b : ℕ) → b ∈ n → b < 128) → ((b : ℕ) → b ∈ m → b < 128) → 1 ≤ length n → 1 ≤ length m
    → ended n ++ x ≡ ended m ++ y → (n ≡ m) × (x ≡ y)
unfolding ended
ended-apart [] m x y p q h k e = absurd (omega arith)
ended-apart (a ∷ n) [] x y p q h k e = absurd (omega arith)
ended-apart (a ∷ []) (b ∷ []) x y p q h k e =
    let i : 128 + a % 128 ≡ 128 + b % 128 = cc in
    let r : x ≡ y = cc in
    let s : a ≡ b = omega (arith, p a (Memᴰ.head refl), q b (Memᴰ.head refl)) in
    (ap (λ (c : ℕ). c ∷ []) s, r)
ended-apart (a ∷ []) (b ∷ d ∷ ds) x y p q h k e =
    let i : 128 + a % 128 ≡ b = cc in
    absurd (omega (arith, q b (Memᴰ.head refl)))
ended-apart (a ∷ c ∷ cs) (b ∷ []) x y p q h k e =
    let i : a ≡ 128 + b % 128 = cc in
    absurd (omega (arith, p a (Memᴰ.head refl)))
ended-apart (a ∷ c ∷ cs) (b ∷ d ∷ ds) x y p q h k e =
    let i : a ≡ b = cc in
    let j : ended (c ∷ cs) ++ x ≡ ended (d ∷ ds) ++ y = cc in
    let r =
    ended-apart (c ∷ cs) (d ∷ ds) x y (λ f n. p f (Memᴰ.tail n)) (λ f n. q f (Memᴰ.tail n)) (omega arith) (omega arith) j in
    (ap₂ ◌∷◌ i r.0, r.1)

-- a packed expression is as long as the expression costs
pub pack-length : (db : Database) (xs : List ℕ) → length (packed db xs) ≡ cost db xs
unfolding packed packed_symbol cost
pack-length db [] = refl
pack-length db (s ∷ ss) = rw (length-append, ended-length, pack-length db ss)

-- joined expressions are packed one after the other
pub pack-append : (db : Database) (xs ys : List ℕ) → packed db (xs ++ ys) ≡ packed db xs ++ packed db ys
unfolding packed
pack-append db [] ys = refl
pack-append db (s ∷ ss) ys = rw (append_assoc, pack-append db ss ys)

-- joined expressions cost what both cost
pub cost-append : (db : Database) (xs ys : List ℕ) → cost db (xs ++ ys) ≡ cost db xs + cost db ys
unfolding cost
cost-append db [] ys = omega arith
cost-append db (s ∷ ss) ys = omega (arith, cost-append db ss ys)

-- one symbol under a substitution, packed
pack-replaced : (db : Database) (t : Bool) (image : List ℕ) (s : ℕ)
    → packed db (replaced t image s) ≡ pick t (packed db image) (packed_symbol db s)
unfolding packed replaced pick
pack-replaced db true image s = refl
pack-replaced db false image s = append-nil (packed_symbol db s)

-- the packed text of a substituted expression is made of the packed texts of its parts
pub pack-substituted : (db : Database) (σ : Substitution) (s : ℕ) (ss : List ℕ)
    → packed db (substituted (is_variable db) σ (s ∷ ss))
    ≡ pick (is_variable db s) (packed db (σ s)) (packed_symbol db s) ++ packed db (substituted (is_variable db) σ ss)
unfolding substituted
pack-substituted db σ s ss = rw (pack-append, pack-replaced)

-- tests that hold in the same cases are equal
agree : (t u : Bool) → (t ≡ true → u ≡ true) → (u ≡ true → t ≡ true) → t ≡ u
agree true u f g = sym (f refl)
agree false true f g = g refl
agree false false f g = refl

module _ {db : Database} (facts : Facts db) where
  -- every byte of a name is below 128
  pub name-low : (s : ℕ) → s < length db.symbols → (b : ℕ) → b ∈ (symbol_of db s).name → b < 128
  name-low s d b m = omega (arith, ((facts.symbol s d).name_bytes b m).high)

  -- of two texts that begin with packed symbols, equal texts have one symbol and equal rests
  pub symbol-apart : (s t : ℕ) (x y : List ℕ) → s < length db.symbols → t < length db.symbols
      → packed_symbol db s ++ x ≡ packed_symbol db t ++ y → (s ≡ t) × (x ≡ y)
  unfolding packed_symbol
  symbol-apart s t x y d f e =
      let r =
      ended-apart _ _ x y (name-low s d) (name-low t f) (facts.symbol s d).name_some (facts.symbol t f).name_some e in
      (facts.names_differ s t d f r.0, r.1)

  -- an expression with a symbol is not packed to nothing
  symbol-some : (s : ℕ) (ss : List ℕ) → s < length db.symbols → packed db (s ∷ ss) ≡ [] → ⊥
  unfolding packed packed_symbol
  symbol-some s ss d e =
      let l = simp (length-append, ended-length) at (ap length e) in
      omega (arith, (facts.symbol s d).name_some)

  -- expressions of defined symbols that are packed alike are the same
  pub pack-injective : (xs ys : List ℕ) → ((s : ℕ) → s ∈ xs → s < length db.symbols)
      → ((s : ℕ) → s ∈ ys → s < length db.symbols) → packed db xs ≡ packed db ys → xs ≡ ys
  unfolding packed
  pack-injective [] [] f g e = refl
  pack-injective [] (t ∷ ts) f g e = absurd (symbol-some t ts (g t (Memᴰ.head refl)) (sym e))
  pack-injective (s ∷ ss) [] f g e = absurd (symbol-some s ss (f s (Memᴰ.head refl)) e)
  pack-injective (s ∷ ss) (t ∷ ts) f g e =
      let r = symbol-apart s t _ _ (f s (Memᴰ.head refl)) (g t (Memᴰ.head refl)) e in
      ap₂ ◌∷◌ r.0 (pack-injective ss ts (λ u m. f u (Memᴰ.tail m)) (λ u m. g u (Memᴰ.tail m)) r.1)

  -- so the test on packed texts is the test on expressions
  pub pack-same : (xs ys : List ℕ) → ((s : ℕ) → s ∈ xs → s < length db.symbols)
      → ((s : ℕ) → s ∈ ys → s < length db.symbols) → same (packed db xs) (packed db ys) ≡ same xs ys
  pack-same xs ys f g =
      agree _ _ (λ e. rw (pack-injective xs ys f g (same_true _ _ e)) (same_self ys))
      (λ e. rw (same_true xs ys e) (same_self (packed db ys)))

  -- every byte of a packed expression of defined symbols is below 256
  pub packed-bytes : (xs : List ℕ) → ((s : ℕ) → s ∈ xs → s < length db.symbols) → (b : ℕ) → b ∈ packed db xs → b < 256
  unfolding packed packed_symbol
  packed-bytes [] f b m = absurd (Memᴰ.not-nil m)
  packed-bytes (s ∷ ss) f b m =
      part (packed-bytes ss (λ u n. f u (Memᴰ.tail n)) b) (Memᴰ.append_cases (packed_symbol db s) m)
    where
      part : (b ∈ packed db ss → b < 256) → (b ∈ packed_symbol db s) ⊎ (b ∈ packed db ss) → b < 256
      part later (inl n) = ended-bytes _ (name-low s (f s (Memᴰ.head refl))) b n
      part later (inr n) = later n
