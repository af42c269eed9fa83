-- The outcome is unique: whatever satisfies the contract of the file check is one answer and one state of each table. And the
-- verdict is always one of two things: good, with the counts of the index, or a refusal at a place of the file.
use Prim.Native.Nat.{ℕ, ◌+◌, ◌≤◌}
use mathlib.Core.Path.{◌≡◌, refl, sym, ◌∙◌}
use mathlib.Core.Logic.{◌⊎◌, inl, inr}
use mathlib.Core.List.{List}
use native.Mathlib.Omega.{arith}
use lib.ListN.{length}
use Rattle.frames.specs.Logic.{below}
use Rattle.frames.specs.Verdict.{Index, nothing, refusal, end_verdict, at_end, outcome, verdict, index, Checked, Verdict, Good, Refused}
use Rattle.frames.specs.Database.{database, GoodFile}
use Rattle.frames.specs.declared.Refusal.{Refusal}
use Rattle.frames.specs.declared.Refusal.TheVariants.{TooMany, NoProof}
use Rattle.facts.proofs.Kept.{pick-cases, walk_is, refused-not-good, good-parts}
use Rattle.facts.proofs.Decoded.{symbols-length, statements-length}

-- no two outcomes satisfy the contract
pub checked-unique : (f syms stmts a a' b b' : List ℕ) (v w : Verdict) → Checked f syms stmts a b v → Checked f syms stmts a' b' w
    → (v ≡ w) × (a ≡ a') × (b ≡ b')
checked-unique f syms stmts a a' b b' v w x y =
    (x.answers ∙ sym y.answers, x.symbols_laid ∙ sym y.symbols_laid, x.statements_laid ∙ sym y.statements_laid)

-- the verdict refuses the file, at a place of it
pub record RefusedAt (f : List ℕ) (v : Verdict) : Type 0 where
  pub why : Refusal
  pub place : ℕ
  pub is : v ≡ Refused why place
  pub inside : place ≤ length f

-- good, with the counts of the index, or refused at a place of the file
abbrev Decides : List ℕ → Index → Verdict → Type 0
Decides f ix v = (v ≡ Good (length ix.symbols) (length ix.statements)) ⊎ RefusedAt f v

refusal-decides : (f : List ℕ) (why : Refusal) (place : ℕ) (ix : Index) → place ≤ length f
    → Decides f (refusal why place ix).index (refusal why place ix).verdict
unfolding refusal
refusal-decides f why place ix h = inr (record { why = why; place = place; is = refl; inside = h })

end-decides : (f : List ℕ) (ix : Index) → Decides f (at_end f ix).index (at_end f ix).verdict
unfolding at_end end_verdict
end-decides f ix =
    pick-cases (Decides f ix) ix.owed (Refused NoProof (length f)) _
    (λ t. inr (record { why = NoProof; place = length f; is = refl; inside = omega arith })) (λ t. inl refl)

pub verdict-decides : (f : List ℕ)
    → (verdict f ≡ Good (length (index f).symbols) (length (index f).statements)) ⊎ RefusedAt f (verdict f)
unfolding verdict index outcome
verdict-decides f =
    pick-cases (λ r. Decides f r.index r.verdict) (below 1048576 (length f)) (refusal TooMany 0 nothing) _
    (λ t. refusal-decides f TooMany 0 nothing (omega arith))
    (λ t.
    walk_is f (λ ix o. Unit {0}) (λ r. Decides f r.index r.verdict) (λ ix o i. end-decides f ix)
    (λ ix o why h i. refusal-decides f why o ix (omega arith)) (λ ix o h i fine. tt) (length f + 1) nothing 0 tt)

-- the counts of the index are those of the database
pub good-file : (f : List ℕ) → verdict f ≡ Good (length (index f).symbols) (length (index f).statements) → GoodFile f
unfolding database
good-file f e = record { is = rw (symbols-length f (index f), statements-length f (index f)) e }

-- a file that is answered as good is good, and the answer counts its symbols and statements
pub good-answer : (f : List ℕ) (a b : ℕ) → verdict f ≡ Good a b
    → GoodFile f × (a ≡ length (database f).symbols) × (b ≡ length (database f).statements)
good-answer f a b e = here (verdict-decides f)
  where
    here : (verdict f ≡ Good (length (index f).symbols) (length (index f).statements)) ⊎ RefusedAt f (verdict f)
        → GoodFile f × (a ≡ length (database f).symbols) × (b ≡ length (database f).statements)
    here (inl g) = let h = good-parts (sym e ∙ (good-file f g).is) in (good-file f g, h.0, h.1)
    here (inr r) = absurd (refused-not-good r.is e)
