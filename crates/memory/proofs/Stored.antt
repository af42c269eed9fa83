-- A row more on the stack or among the places: there is room for it, or there is not.
use Rattle.std.proofs.Common.{Ok, Err}
use Prim.Native.Nat.{ℕ, ◌+◌, ◌≤◌, ◌<◌}
use mathlib.Core.Path.{◌≡◌, refl, ap}
use mathlib.Core.Bool.{Bool, true, false}
use mathlib.Core.List.{List}
use native.Mathlib.Omega.{arith}
use Rattle.frames.specs.Logic.{at_most, pick}
use Rattle.frames.proofs.Chains.{at_most-yes, at_most-no, pick_first, pick_second}
use Rattle.machine.specs.declared.Refusal.TheVariants.{StackFull, PlacesFull}
use Rattle.memory.specs.declared.table.Row.{Row}
use Rattle.memory.specs.declared.Counts.{Counts}
use Rattle.memory.specs.Outcome.{Outcome}
use Rattle.memory.specs.Table.{with_row}
use Rattle.memory.specs.Shown.{with_depth, Pushes, AddsPlace}

module _ (stack : List ℕ) (c : Counts) (limit left : ℕ) (row : Row) where
  pub push-full : limit ≤ left → Pushes stack c limit left row stack (Err StackFull)
  push-full full =
      record { answers = pick_first _ (at_most-yes full) refl; holds = pick_first _ (at_most-yes full) refl }

  pub push-fits : {stack' : List ℕ} → left < limit → stack' ≡ with_row row left stack
      → Pushes stack c limit left row stack' (Ok (record { used = c.used; count = c.count; places = c.places; locals = c.locals; depth = left + 1; nodes = c.nodes }))
  push-fits fits is =
      record { answers = pick_second _ (at_most-no fits) refl; holds = pick_second _ (at_most-no fits) is }

module _ (places : List ℕ) (c : Counts) (limit : ℕ) (row : Row) where
  pub place-full : limit ≤ c.places → AddsPlace places c limit row places (Err PlacesFull)
  place-full full =
      record { answers = pick_first _ (at_most-yes full) refl; holds = pick_first _ (at_most-yes full) refl }

  pub place-fits : {places' : List ℕ} → c.places < limit → places' ≡ with_row row c.places places
      → AddsPlace places c limit row places' (Ok (record { used = c.used; count = c.count; places = c.places + 1; locals = c.locals; depth = c.depth; nodes = c.nodes }))
  place-fits fits is =
      record { answers = pick_second _ (at_most-no fits) refl; holds = pick_second _ (at_most-no fits) is }

-- what goes on uses as much of the pool
pub push-used : {stack : List ℕ} {c c' : Counts} {limit left : ℕ} {row : Row} {stack' : List ℕ} {answer : Outcome} → Pushes stack c limit left row stack' answer → answer ≡ Ok c'
    → c'.used ≡ c.used
unfolding pick
push-used {c = c} {c'} {limit} {left} {answer = answer} p is = tried (at_most limit left) p.answers
  where
    tried : (t : Bool) → answer ≡ pick t (Err StackFull) (Ok (with_depth c (left + 1))) → c'.used ≡ c.used
    tried true e = let z : ◌≡◌ {A = ℕ} 0 1 = cc in absurd (omega arith)
    tried false e = let same : c' ≡ with_depth c (left + 1) = cc in ap (λ (x : Counts). x.used) same
