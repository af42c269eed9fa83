-- The one induction over the walk. A property of outcomes holds of the walk's if it holds at the end of the file and at a
-- faulty record, wherever an invariant holds that each faultless record keeps. So an invariant holds of a good file's index.
use Rattle.std.proofs.Common.{Some, None, Result, Ok, Err}
use Prim.Native.Nat.{ℕ, zero, suc, ◌+◌, ◌<◌}
use mathlib.Core.Path.{◌≡◌, refl, ap}
use mathlib.Core.Bool.{Bool, true, false}
use mathlib.Core.List.{List}
use native.Mathlib.Omega.{arith}
use lib.ListN.{length}
use Rattle.frames.specs.Logic.{below, at_most, pick}
use Rattle.frames.specs.Layout.{next_at}
use Rattle.frames.specs.Verdict.{Index, nothing, Outcome, fault_at, after, refusal, end_verdict, at_end, decided, walk, outcome, verdict, index, Fault, Verdict, Good, Refused}
use Rattle.frames.specs.Database.{GoodFile}
use Rattle.frames.specs.declared.Refusal.{Refusal}
use Rattle.frames.specs.declared.TurnedAway.{TurnedAway}
use Rattle.frames.specs.declared.Refusal.TheVariants.{TooMany, NoProof}
use Rattle.frames.proofs.Chains.{at_most-false}
use Rattle.frames.proofs.Fine.{Faultless, fault-fine}

-- what holds of both, where each is picked, holds of what is picked
pub pick-cases : {A : Type 0} (P : A → Type 0) (t : Bool) (a b : A) → (t ≡ true → P a) → (t ≡ false → P b) → P (pick t a b)
unfolding pick
pick-cases P true a b first second = first refl
pick-cases P false a b first second = second refl

module _ (f : List ℕ) (Inv : Index → ℕ → Type 0) (P : Outcome → Type 0)
    (ends : (ix : Index) (o : ℕ) → Inv ix o → P (at_end f ix))
    (stops : (ix : Index) (o : ℕ) (why : Refusal) → o < length f → Inv ix o → P (refusal why o ix))
    (goes : (ix : Index) (o : ℕ) → o < length f → Inv ix o → Faultless f ix.symbols ix.statements ix.owed o
    → Inv (after f ix o) (next_at f o)) where
  decided-is : (v : Fault) (ix : Index) (o : ℕ) (rest : Outcome) → o < length f → Inv ix o → (v ≡ None → P rest)
      → P (decided v o ix rest)
  unfolding decided
  decided-is None ix o rest h i later = later refl
  decided-is (Some why) ix o rest h i later = stops ix o why h i

  pub walk_is : (k : ℕ) (ix : Index) (o : ℕ) → Inv ix o → P (walk k f ix o)
  unfolding walk
  walk_is zero ix o i = ends ix o i
  walk_is (suc k) ix o i =
      pick-cases P (at_most (length f) o) (at_end f ix) _ (λ t. ends ix o i)
      (λ t.
      decided-is (fault_at f ix.symbols ix.statements ix.owed o) ix o (walk k f (after f ix o) (next_at f o))
      (at_most-false _ _ t) i
      (λ v. walk_is k (after f ix o) (next_at f o) (goes ix o (at_most-false _ _ t) i (fault-fine _ _ _ _ _ v))))

-- the invariant at the end of a good file
abbrev Ends : (Index → ℕ → Type 0) → Outcome → Type 0
Ends Inv r = (a b : ℕ) → r.verdict ≡ Good a b → (o : ℕ) × Inv r.index o × (r.index.owed ≡ false)

pub refused-not-good : {v : Verdict} {why : Refusal} {place a b : ℕ} → v ≡ Refused why place → v ≡ Good a b → ⊥
refused-not-good p q = let z : ◌≡◌ {A = ℕ} 0 1 = cc in omega arith

-- two good verdicts that are the same count the same
symbols-in : Verdict → ℕ
symbols-in (Ok sizes) = sizes.symbols
symbols-in (Err away) = 0

statements-in : Verdict → ℕ
statements-in (Ok sizes) = sizes.statements
statements-in (Err away) = 0

pub good-parts : {a b c d : ℕ} → Good a b ≡ Good c d → (a ≡ c) × (b ≡ d)
unfolding symbols-in statements-in
good-parts e = (ap symbols-in e, ap statements-in e)

place-in : {A : Type 0} → Result A TurnedAway → ℕ
place-in (Ok x) = 0
place-in (Err away) = away.place

why-in : {A : Type 0} → Refusal → Result A TurnedAway → Refusal
why-in w (Ok x) = w
why-in w (Err away) = away.why

-- two refusals that are the same have the same reason and place
pub refused-parts : {A : Type 0} {why why' : Refusal} {place place' : ℕ} → ◌≡◌ {A = Result A TurnedAway} (Refused why place) (Refused why' place') → (why ≡ why') × (place ≡ place')
unfolding place-in why-in
refused-parts {why} e = (ap (why-in why) e, ap place-in e)

refusal-ends : (Inv : Index → ℕ → Type 0) (why : Refusal) (place : ℕ) (ix : Index) → Ends Inv (refusal why place ix)
unfolding refusal
refusal-ends Inv why place ix a b e = absurd (refused-not-good refl e)

end-ends : (Inv : Index → ℕ → Type 0) (f : List ℕ) (ix : Index) (o : ℕ) → Inv ix o → Ends Inv (at_end f ix)
unfolding at_end end_verdict
end-ends Inv f ix o i a b =
    pick-cases (λ v. v ≡ Good a b → (o : ℕ) × Inv ix o × (ix.owed ≡ false)) ix.owed (Refused NoProof (length f)) _
    (λ t e. absurd (refused-not-good refl e)) (λ t e. (o, i, t))

-- an invariant that each faultless record keeps holds of a good file's index
pub good-keeps : (f : List ℕ) (Inv : Index → ℕ → Type 0) → Inv nothing 0
    → ((ix : Index) (o : ℕ) → o < length f → Inv ix o → Faultless f ix.symbols ix.statements ix.owed o
    → Inv (after f ix o) (next_at f o))
    → GoodFile f → (o : ℕ) × Inv (index f) o × ((index f).owed ≡ false)
unfolding verdict index outcome
good-keeps f Inv start goes good =
    pick-cases (Ends Inv) (below 1048576 (length f)) (refusal TooMany 0 nothing) _ (λ t. refusal-ends Inv TooMany 0 nothing)
    (λ t.
    walk_is f Inv (Ends Inv) (end-ends Inv f) (λ ix o why h i. refusal-ends Inv why o ix) goes (length f + 1) nothing 0 start)
    _ _ good.is
