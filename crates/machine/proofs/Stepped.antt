-- How many steps are completed, exactly: preparing, saving and labelling keep the count, and running a step makes it one more. A caller
-- who has what came out uses `steps-out` and `ready-steps-out`.
use Prim.Native.Nat.{ℕ, zero, suc}
use mathlib.Core.Path.{◌≡◌, refl, ap}
use mathlib.Core.Option.{Option, none, some}
use mathlib.Core.List.{List, [], ◌∷◌}
use native.Mathlib.Omega.{arith}
use Rattle.frames.specs.Database.{Database}
use Rattle.machine.specs.Chain.{Result, fine, bind}
use Rattle.machine.specs.Reading.{Parts}
use Rattle.machine.specs.Memory.{Room, Proved, Prepared, recalls, applies, Entry, Memory, push, add_place, save_top, add_local, give_local}
use Rattle.machine.specs.Prepare.{Ready, ready, spend, prepare_hypothesis, prepare_statement, prepare_found, add_ready, prepare_roster, preload, at_place, ready_with, prepare_place, prepare_local, prepare_named, prepare_normal}
use Rattle.machine.specs.Apply.{conclude, apply_assertion, assign_entries, run_prepared, run_ready}
use Rattle.machine.specs.Run.{step_at}
use Rattle.machine.proofs.Gives.{Gives, gives, stops, unless-gives, bind-gives, pick_gives}
use Rattle.machine.proofs.Applied.{marks-give}
use Rattle.machine.proofs.Counts.{hyps-count}

-- the memory has n steps completed
pub record StepsAre (n : ℕ) (m : Memory) : Type 0 where
  pub is : m.steps ≡ n

pub record ReadyStepsAre (n : ℕ) (r : Ready) : Type 0 where
  pub is : r.memory.steps ≡ n

-- what came out has the property
pub given : {A : Type 0} {P : A → Type 0} {r : Result A} {y : A} → Gives P r → r ≡ fine y → P y
given {y} (gives {x} q) e = let same : x ≡ y = cc in rw same at q
given {y} stops e = let never : ◌≡◌ {A = ℕ} 0 1 = cc in absurd (omega arith)

pub steps-out : {n : ℕ} {r : Result Memory} {m : Memory} → Gives (StepsAre n) r → r ≡ fine m → m.steps ≡ n
steps-out g e = (given g e).is

pub ready-steps-out : {n : ℕ} {r : Result Ready} {x : Ready} → Gives (ReadyStepsAre n) r → r ≡ fine x → x.memory.steps ≡ n
ready-steps-out g e = (given g e).is

same-steps : {k n : ℕ} {r : Result Memory} → k ≡ n → Gives (StepsAre k) r → Gives (StepsAre n) r
same-steps e g = rw e at g

-- taking a place
module _ (room : Room) where
  pub place-steps : (m : Memory) (step : Prepared) → Gives (StepsAre m.steps) (add_place room m step)
  unfolding add_place
  place-steps m step = unless-gives _ _ (λ t. gives (record { is = refl }))

  pub save-steps : (m : Memory) (es : List Entry) → Gives (StepsAre m.steps) (save_top room m es)
  unfolding save_top
  save-steps m [] = stops
  save-steps m (e ∷ es) = place-steps m (recalls e.proved)

  pub local-steps : (m : Memory) (label : Option (List ℕ)) → Gives (StepsAre m.steps) (give_local room m label)
  unfolding give_local add_local
  local-steps m none = gives (record { is = refl })
  local-steps m (some label) = unless-gives _ _ (λ t. save-steps (add_local m label) m.stack)

  pub ready-steps : (r : Ready) → Gives (StepsAre r.memory.steps) (add_ready room r)
  unfolding add_ready
  ready-steps r = place-steps r.memory r.step

  added-steps : {n : ℕ} (r : Ready) → ReadyStepsAre n r → Gives (StepsAre n) (add_ready room r)
  added-steps r s = same-steps s.is (ready-steps r)

  -- a new entry: one step more
  pub push-steps : (m : Memory) (h : ℕ) (left : List Entry) (e : Entry) → Gives (StepsAre (suc m.steps)) (push room m h left e)
  unfolding push
  push-steps m h left e = unless-gives _ _ (λ t. gives (record { is = refl }))

-- what stands at a place
module _ (m : Memory) where
  at-steps : (steps : List Prepared) (k : ℕ) → Gives (ReadyStepsAre m.steps) (bind (at_place steps k) (ready_with m))
  unfolding at_place ready_with ready bind
  at-steps [] k = stops
  at-steps (step ∷ steps) zero = gives (record { is = refl })
  at-steps (step ∷ steps) (suc k) = at-steps steps k

  pub prepare-place-steps : (k : ℕ) → Gives (ReadyStepsAre m.steps) (prepare_place m k)
  unfolding prepare_place
  prepare-place-steps k = at-steps m.places k

  pub prepare-local-steps : (o : Option ℕ) → Gives (ReadyStepsAre m.steps) (prepare_local m o)
  unfolding prepare_local
  prepare-local-steps none = stops
  prepare-local-steps (some k) = prepare-place-steps k

module _ (db : Database) (room : Room) where
  pub hypothesis-steps : (m : Memory) (h : ℕ) → Gives (ReadyStepsAre m.steps) (prepare_hypothesis db room m h)
  unfolding prepare_hypothesis ready spend
  hypothesis-steps m h = unless-gives _ _ (λ t. unless-gives _ _ (λ u. gives (record { is = refl })))

  pub preload-steps : (hs : List ℕ) (m : Memory) → Gives (StepsAre m.steps) (preload db room hs m)
  unfolding preload
  preload-steps [] m = gives (record { is = refl })
  preload-steps (h ∷ hs) m =
      bind-gives (bind-gives (hypothesis-steps m h) (added-steps room)) (λ m' s. same-steps s.is (preload-steps hs m'))

module _ (db : Database) (p : ℕ) (room : Room) where
  pub statement-steps : (m : Memory) (s : ℕ) → Gives (ReadyStepsAre m.steps) (prepare_statement db p room m s)
  unfolding prepare_statement ready
  statement-steps m s =
      unless-gives _ _ (λ t. unless-gives _ _ (λ u. pick_gives _ (λ v. hypothesis-steps db room m s) (λ v. gives (record { is = refl }))))

  pub found-steps : (m : Memory) (o : Option ℕ) → Gives (ReadyStepsAre m.steps) (prepare_found db p room m o)
  unfolding prepare_found
  found-steps m none = stops
  found-steps m (some s) = statement-steps m s

  pub roster-steps : (m : Memory) (label : List ℕ) → Gives (StepsAre m.steps) (prepare_roster db p room m label)
  unfolding prepare_roster
  roster-steps m label = bind-gives (found-steps m _) (added-steps room)

  pub named-steps : (m : Memory) (token : Parts) (o : Option ℕ) → Gives (ReadyStepsAre m.steps) (prepare_named db p room m token o)
  unfolding prepare_named
  named-steps m token (some s) = statement-steps m s
  named-steps m token none = unless-gives _ _ (λ t. prepare-local-steps m _)

  pub normal-steps : (m : Memory) (token : Parts) → Gives (ReadyStepsAre m.steps) (prepare_normal db p room m token)
  unfolding prepare_normal
  normal-steps m token = unless-gives _ _ (λ t. named-steps m token _)

  -- running a step: one more
  conclude-steps : (m : Memory) (mark : Option (List ℕ)) (h : ℕ) (x : Proved) → Gives (StepsAre (suc m.steps)) (conclude db room m mark h x)
  unfolding conclude spend
  conclude-steps m mark h x = unless-gives _ _ (λ t. push-steps room _ h _ _)

  pub run-prepared-steps : (m : Memory) (mark : Option (List ℕ)) (step : Prepared)
      → Gives (StepsAre (suc m.steps)) (run_prepared db p room m mark step)
  unfolding run_prepared assign_entries apply_assertion
  run-prepared-steps m mark (recalls x) = push-steps room m 0 m.stack _
  run-prepared-steps m mark (applies a) =
      unless-gives _ _ (λ t. marks-give _ [] _ (hyps-count db p room 0 _ _ _ (unless-gives _ _ (λ u. conclude-steps m mark _ _))))

  pub run-ready-steps : (mark : Option (List ℕ)) (r : Ready) → Gives (StepsAre (suc r.memory.steps)) (run_ready db p room mark r)
  unfolding run_ready
  run-ready-steps mark r = run-prepared-steps r.memory mark r.step

  ran-steps : {n : ℕ} (mark : Option (List ℕ)) (r : Ready) → ReadyStepsAre n r → Gives (StepsAre (suc n)) (run_ready db p room mark r)
  ran-steps mark r s = same-steps (ap suc s.is) (run-ready-steps mark r)

  pub step-at-steps : (m : Memory) (k : ℕ) → Gives (StepsAre (suc m.steps)) (step_at db p room m k)
  unfolding step_at
  step-at-steps m k = bind-gives (prepare-place-steps m k) (ran-steps none)

  pub token-steps : (m : Memory) (token : Parts)
      → Gives (StepsAre (suc m.steps)) (bind (prepare_normal db p room m token) (run_ready db p room token.mark))
  token-steps m token = bind-gives (normal-steps m token) (ran-steps token.mark)
