-- The test for disjointness means what the book says: a pair that passes it is kept by the substitution.
use Prim.Native.Nat.{ℕ}
use mathlib.Core.Path.{◌≡◌, refl, sym, ◌∙◌}
use mathlib.Core.Bool.{Bool, true, false}
use mathlib.Core.Logic.{◌⊎◌, inl, inr}
use mathlib.Core.List.Memᴰ
use mathlib.Core.List.{List, [], ◌∷◌}
use Rattle.book.specs.Book.{Substitution, Disjoint, Keeps}
use Rattle.frames.specs.Logic.{equal, both}
use Rattle.frames.specs.Database.{Database}
use Rattle.frames.specs.Facts.{◌∈◌, statement_of, StatementFacts}
use Rattle.frames.proofs.Chains.{equal-true}
use Rattle.frames.proofs.Tells.{both_true, either-cases, all-member, any-witness}
use Rattle.machine.specs.Ground.{is_variable, add_if, ground}
use Rattle.machine.specs.Apply.{is_pair, disjoint, variables_of, disjoint_from, keeps}

-- a variable that stands in a sequence is among the variables that occur in it
keep-here : {x : ℕ} {t : Bool} (xs : List ℕ) → t ≡ true → x ∈ add_if t x xs
unfolding add_if
keep-here xs e = rw e (Memᴰ.head refl)

keep-later : {x : ℕ} (y : ℕ) (t : Bool) {xs : List ℕ} → x ∈ xs → x ∈ add_if t y xs
unfolding add_if
keep-later y true m = Memᴰ.tail m
keep-later y false m = m

occurs-listed : (db : Database) {v : ℕ} (ss : List ℕ) → is_variable db v ≡ true → v ∈ ss → v ∈ variables_of db ss
unfolding variables_of
occurs-listed db [] var m = absurd (Memᴰ.not-nil m)
occurs-listed db {v} (s ∷ ss) var m = stands (occurs-listed db ss var) (Memᴰ.cases_cons m)
  where
    stands : (v ∈ ss → v ∈ variables_of db ss) → (v ≡ s) ⊎ (v ∈ ss) → v ∈ add_if (is_variable db s) s (variables_of db ss)
    stands later (inl e) = rw e (keep-here (variables_of db ss) (rw e at var))
    stands later (inr n) = keep-later s (is_variable db s) (later n)

module _ (db : Database) (p : ℕ) (facts : StatementFacts db p (statement_of db p)) where
  -- a pair of the statement has different members, and joins them in either order
  one_way : (u v : ℕ) (q : ℕ × ℕ) → q ∈ (statement_of db p).pairs → both (equal u q.0) (equal v q.1) ≡ true
      → Disjoint (ground db p) u v
  unfolding ground
  one_way u v q m e =
      let parts = both_true _ _ e in
      let a : u ≡ q.0 = equal-true _ _ parts.0 in
      let b : v ≡ q.1 = equal-true _ _ parts.1 in
      record { differ = λ same. facts.pair_differs q m (sym a ∙ (same ∙ b)); declared = inl (rw (a, b) m) }

  other_way : (u v : ℕ) (q : ℕ × ℕ) → q ∈ (statement_of db p).pairs → both (equal u q.1) (equal v q.0) ≡ true
      → Disjoint (ground db p) u v
  unfolding ground
  other_way u v q m e =
      let parts = both_true _ _ e in
      let a : u ≡ q.1 = equal-true _ _ parts.0 in
      let b : v ≡ q.0 = equal-true _ _ parts.1 in
      record { differ = λ same. facts.pair_differs q m (sym (sym a ∙ (same ∙ b))); declared = inr (rw (a, b) m) }

  pub disjoint-means : (u v : ℕ) → disjoint (statement_of db p).pairs u v ≡ true → Disjoint (ground db p) u v
  unfolding disjoint is_pair
  disjoint-means u v e =
      let w = any-witness (is_pair u v) _ e in
      either-cases _ _ (one_way u v w.0 w.1) (other_way u v w.0 w.1) w.2

  pub keeps-means : (σ : Substitution) (q : ℕ × ℕ) → keeps db (statement_of db p).pairs σ q ≡ true → Keeps (ground db p) σ q
  unfolding keeps disjoint_from ground
  keeps-means σ q e u v first second =
      let us = all-member _ _ e (occurs-listed db (σ q.0) first.variable first.stands) in
      disjoint-means u v (all-member _ _ us (occurs-listed db (σ q.1) second.variable second.stands))
