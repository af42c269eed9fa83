-- Every answer is small enough to be one number of 64 bits: 8 bits of number, 24 of place, 32 of steps.
use Rattle.std.proofs.Common.{Ok, Err}
use Prim.Native.Nat.{ℕ, ◌+◌, ◌≤◌, ◌<◌}
use mathlib.Core.Path.{◌≡◌, refl, sym, ◌∙◌, ap}
use mathlib.Core.Bool.{Bool, true, false}
use mathlib.Core.Logic.{◌⊎◌, inl, inr}
use mathlib.Core.List.{List}
use native.Mathlib.Omega.{arith}
use lib.ListN.{length, get_or-eq_default}
use Rattle.frames.specs.Logic.{equal, below, pick}
use Rattle.frames.specs.Verdict.{verdict, index, outcome, refusal, nothing, walk, Verdict, Good, Refused}
use Rattle.frames.specs.Database.{Statement, database, GoodFile}
use Rattle.frames.specs.Facts.{statement_of}
use Rattle.frames.specs.declared.Refusal.{Refusal}
use Rattle.frames.specs.declared.Refusal.TheVariants.{TooMany}
use Rattle.frames.proofs.Chains.{equal-true, below_true, below_false}
use Rattle.facts.proofs.GoodFacts.{good-facts}
use Rattle.facts.proofs.Kept.{refused-not-good, refused-parts}
use Rattle.facts.proofs.Unique.{good-answer, RefusedAt, verdict-decides}
use Rattle.machine.specs.Answer.{Answer, accepted, refused, turned_away, not_provable, number, place, steps}
use Rattle.machine.specs.Bench.{answer, answer_good, judged, ended}
use Rattle.machine.specs.Memory.{Room, limited}
use Rattle.machine.specs.Promise.{Counted, all_steps, some_steps}
use Rattle.machine.specs.Run.{run}
use Rattle.machine.proofs.Counts.{run-counted}
use Rattle.machine.proofs.Numbers.{number-range}

pub record Small (a : Answer) : Type 0 where
  pub number_small : number a < 256
  pub place_small : place a < 16777216
  pub steps_small : steps a < 4294967296

small-number : (a : Answer) → number a < 256
small-number a = by (number-range a)
  where
    by : (number a ≡ 0) ⊎ (((1 ≤ number a) × (number a ≤ 8)) ⊎ ((20 ≤ number a) × (number a ≤ 46))) → number a < 256
    by (inl z) = omega arith
    by (inr (inl r)) = omega (arith, r.1)
    by (inr (inr r)) = omega (arith, r.1)

small : (a : Answer) → place a ≤ 1048576 → steps a ≤ 65536 → Small a
small a p s = record { number_small = small-number a; place_small = omega arith; steps_small = omega arith }

counted-small : {L : ℕ} (a : Answer) → L ≤ 65536 → Counted L a → Small a
unfolding place steps
counted-small (accepted L done consumed tree) few (all_steps e s) = small _ (omega arith) (omega arith)
counted-small (refused why at done) few (some_steps q s) = small _ (omega arith) (omega arith)
counted-small (turned_away why at) few counted = elim counted [ ]
counted-small not_provable few counted = elim counted [ ]

none-small : Small not_provable
unfolding place steps
none-small = small not_provable (omega arith) (omega arith)

away-small : (why : Refusal) (at : ℕ) → at ≤ 1048576 → Small (turned_away why at)
unfolding place steps
away-small why at few = small (turned_away why at) few (omega arith)

-- the place of a refusal of the file: 0 where the file is too long, else a place of the file
module _ (f : List ℕ) (why : Refusal) (at : ℕ) (e : verdict f ≡ Refused why at) where
  long-place : below 1048576 (length f) ≡ true → at ≡ 0
  unfolding verdict outcome refusal pick
  long-place t = let v : ◌≡◌ {A = Verdict} (Refused why at) (Refused TooMany 0) = sym e ∙ ap (λ (b : Bool). (pick b (refusal TooMany 0 nothing) (walk (length f + 1) f nothing 0)).verdict) t in (refused-parts v).1

  inside-place : at ≤ length f
  inside-place = by (verdict-decides f)
    where
      by : (verdict f ≡ Good (length (index f).symbols) (length (index f).statements)) ⊎ RefusedAt f (verdict f) → at ≤ length f
      by (inl g) = absurd (refused-not-good e g)
      by (inr r) =
          let same : at ≡ r.place = (refused-parts (sym e ∙ r.is)).1 in
          let h = r.inside in
          let i = r.is in
          omega arith

  pub refused-place : at ≤ 1048576
  refused-place = by (below 1048576 (length f)) refl
    where
      by : (t : Bool) → below 1048576 (length f) ≡ t → at ≤ 1048576
      by true t = let z = long-place t in omega arith
      by false t = let l = below_false _ _ t in let h = inside-place in omega arith

module _ (f : List ℕ) (p : ℕ) (room : Room) where
  text_few : GoodFile f → (statement_of (database f) p).kind ≡ 5 → length (statement_of (database f) p).text ≤ 65536
  unfolding statement_of
  text_few good five = by (below p (length (database f).statements)) refl
    where
      by : (t : Bool) → below p (length (database f).statements) ≡ t → length (statement_of (database f) p).text ≤ 65536
      by true t = ((good-facts f good).statement p (below_true _ _ t)).text_size five
      by false t =
          let past = below_false _ _ t in
          let z : (statement_of (database f) p).kind ≡ 0 = ap (λ (st : Statement). st.kind) (get_or-eq_default (database f).statements _ past) in
          absurd (omega arith)

  pub answer-small : Small (answer f p room)
  unfolding answer judged answer_good pick
  answer-small = by-verdict (verdict f) refl
    where
      by_kind : GoodFile f → (t : Bool) → equal (statement_of (database f) p).kind 5 ≡ t
          → Small (pick t (ended (run (database f) p (limited room) (statement_of (database f) p).text)) not_provable)
      by_kind good true k = counted-small _ (text_few good (equal-true _ _ k)) (run-counted (database f) p (limited room) _)
      by_kind good false k = none-small

      by-verdict : (v : Verdict) → verdict f ≡ v → Small (judged v (answer_good (database f) p room))
      by-verdict (Ok sizes) e = by_kind (good-answer f sizes.symbols sizes.statements e).0 _ refl
      by-verdict (Err away) e = away-small away.why away.place (refused-place f away.why away.place e)
