-- The entries of an assertion, wherever marks have put them, have what all entries on the stack have.
use Prim.Native.Nat.{ℕ}
use mathlib.Core.Option.{Option, none, some}
use mathlib.Core.List.{List, [], ◌∷◌}
use Rattle.machine.specs.Memory.{Proved, Entry}
use Rattle.machine.specs.Apply.{marked, unmarked_first, unmarked, seat, arranged}
use Rattle.machine.proofs.Every.{Every, none, also}
use Rattle.machine.proofs.Prepared.{Finds, found, unfound, pick-finds}

pub record OfEntry (P : Proved → Type 0) (e : Entry) : Type 0 where
  pub of : P e.proved

module _ (P : Proved → Type 0) where
  marked-has : (label : List ℕ) {es : List Entry} → Every (OfEntry P) es → Finds P (marked label es)
  unfolding marked
  marked-has label none = unfound
  marked-has label (also e es) = pick-finds _ (λ t. found e.of) (λ t. marked-has label es)

  first-has : (mark : Option (List ℕ)) {x : Proved} {xs : List Proved} → P x → Every P xs → Every P (unmarked_first mark x xs)
  unfolding unmarked_first
  first-has none h hs = also h hs
  first-has (some m) h hs = hs

  pub unmarked-has : {es : List Entry} → Every (OfEntry P) es → Every P (unmarked es)
  unfolding unmarked
  unmarked-has none = none
  unmarked-has (also {x} e es) = first-has x.mark e.of (unmarked-has es)

  seat-has : {o : Option Proved} {us : List Proved} {others : List Proved → List Proved} → Finds P o → Every P us
      → ((vs : List Proved) → Every P vs → Every P (others vs)) → Every P (seat o us others)
  unfolding seat
  seat-has (found h) us rest = also h (rest _ us)
  seat-has unfound (also u us) rest = also u (rest _ us)
  seat-has unfound none rest = none

  pub arranged-has : (labels : List (List ℕ)) {es : List Entry} {us : List Proved} → Every (OfEntry P) es → Every P us → Every P (arranged labels es us)
  unfolding arranged
  arranged-has [] es us = none
  arranged-has (l ∷ ls) es us = seat-has (marked-has l es) us (λ vs h. arranged-has ls es h)
