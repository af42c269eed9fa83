-- The facts as a run over a frame's hypotheses meets them, one after another: at a $e each of its variables has its $f in the
-- part of the list that is done, and at a $f no $f of its variable is there. Since the list rises strictly, a listed number
-- below another stands before it.
use Prim.Native.Nat.{ℕ, suc, ◌+◌, ◌<◌}
use mathlib.Core.Path.{◌≡◌, refl, sym}
use mathlib.Core.Logic.{◌⊎◌, inl, inr}
use mathlib.Core.List.Memᴰ
use mathlib.Core.List.{List, [], ◌∷◌, ◌++◌}
use native.Mathlib.Omega.{arith}
use lib.ListN.{length, get_or, length-append, get_or-append}
use lib.Seq.{get_or-append-add, get_or-append_seam}
use Rattle.frames.specs.Database.{Database}
use Rattle.frames.specs.Facts.{◌∈◌, statement_of, Variable, Floats, StatementFacts}

-- a member stands somewhere
pub member-index : {x : ℕ} (xs : List ℕ) → x ∈ xs → (i : ℕ) × (i < length xs) × (get_or xs i 0 ≡ x)
member-index [] m = absurd (Memᴰ.not-nil m)
member-index {x} (y ∷ ys) m = here (member-index ys) (Memᴰ.cases_cons m)
  where
    here : (x ∈ ys → (i : ℕ) × (i < length ys) × (get_or ys i 0 ≡ x)) → (x ≡ y) ⊎ (x ∈ ys)
        → (i : ℕ) × (i < length (y ∷ ys)) × (get_or (y ∷ ys) i 0 ≡ x)
    here later (inl e) = (0, omega arith, sym e)
    here later (inr n) = let w = later n in (suc w.0, omega (arith, w.1), w.2)

module _ (xs ys : List ℕ) (x : ℕ)
    (rises : (i j : ℕ) → i < j → j < length (xs ++ (x ∷ ys)) → get_or (xs ++ (x ∷ ys)) i 0 < get_or (xs ++ (x ∷ ys)) j 0) where
  -- what comes after is above
  pub after-above : (y : ℕ) → y ∈ ys → x < y
  after-above y m =
      let w = member-index ys m in
      let last : length xs + suc w.0 < length (xs ++ (x ∷ ys)) = omega (arith, length-append xs (x ∷ ys), w.1) in
      rw (get_or-append_seam xs x ys 0, get_or-append-add xs (x ∷ ys) (suc w.0) 0, w.2) at
      (rises (length xs) (length xs + suc w.0) (omega arith) last)

  -- so a member below x stands before it
  pub below-before : (y : ℕ) → y ∈ xs ++ (x ∷ ys) → y < x → y ∈ xs
  below-before y m l = here (Memᴰ.append_cases xs m)
    where
      later : (y ≡ x) ⊎ (y ∈ ys) → y ∈ xs
      later (inl e) = absurd (omega arith)
      later (inr n) = absurd (omega (arith, after-above y n))

      here : (y ∈ xs) ⊎ (y ∈ (x ∷ ys)) → y ∈ xs
      here (inl n) = n
      here (inr n) = later (Memᴰ.cases_cons n)

  -- and what stands before x is below it
  pub before-below : (y : ℕ) → y ∈ xs → y < x
  before-below y m =
      let w = member-index xs m in
      let middle : length xs < length (xs ++ (x ∷ ys)) = omega (arith, length-append xs (x ∷ ys)) in
      rw (get_or-append_seam xs x ys 0, get_or-append xs (x ∷ ys) 0 w.0 w.1, w.2) at
      (rises w.0 (length xs) w.1 middle)

module _ (db : Database) (p : ℕ) (facts : StatementFacts db p (statement_of db p)) (done rest : List ℕ) (h : ℕ)
    (split : (statement_of db p).hyps ≡ done ++ (h ∷ rest)) where
  ordered : (i j : ℕ) → i < j → j < length (done ++ (h ∷ rest)) → get_or (done ++ (h ∷ rest)) i 0 < get_or (done ++ (h ∷ rest)) j 0
  ordered = rw split at facts.hyps_rise

  listed : h ∈ (statement_of db p).hyps
  listed = rw split (Memᴰ.append_right done (Memᴰ.head refl))

  -- at a $e each variable has its $f among those that are done
  pub essential-ready : (statement_of db h).kind ≡ 3 → (v : ℕ) → v ∈ (statement_of db h).symbols → Variable db v
      → (g : ℕ) × (g ∈ done) × Floats db v g
  essential-ready k v m var =
      let w = facts.essential_given h listed k v m var in
      (w.by, below-before done rest h ordered w.by (rw split at w.listed) w.before, w.floats)

  -- at a $f no $f of its variable is done
  pub float-new : (v : ℕ) → Floats db v h → (g : ℕ) → g ∈ done → Floats db v g → ⊥
  float-new v here g m there =
      let same : g ≡ h = facts.one_float g h v (rw split (Memᴰ.append_left (h ∷ rest) m)) listed there here in
      omega (arith, before-below done rest h ordered g m)
