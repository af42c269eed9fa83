-- What comes out of a chain of refusals has a property: how facts about a run are carried along its chains. A refusal has every
-- property, since nothing comes out of it.
use Prim.Native.Nat.{ℕ}
use mathlib.Core.Path.{◌≡◌, refl}
use mathlib.Core.Bool.{Bool, true, false}
use Rattle.frames.specs.Logic.{pick}
use Rattle.machine.specs.declared.Refusal.{Refusal}
use Rattle.machine.specs.Chain.{Result, fine, stop, unless, bind}
use Rattle.machine.specs.Answer.{Answer, refused}
use Rattle.machine.specs.Run.{Standing, State, going, over, settle}

pub data Gives {A : Type 0} (P : A → Type 0) : Result A → Type 0 where
  gives : {x : A} → P x → Gives P (fine x)
  stops : {why : Refusal} → Gives P (stop why)

pub unless-gives : {A : Type 0} {P : A → Type 0} {r : Result A} (t : Bool) (why : Refusal) → (t ≡ false → Gives P r) → Gives P (unless t why r)
unfolding unless
unless-gives true why rest = stops
unless-gives false why rest = rest refl

pub bind-gives : {A B : Type 0} {P : A → Type 0} {Q : B → Type 0} {r : Result A} {next : A → Result B}
    → Gives P r → ((x : A) → P x → Gives Q (next x)) → Gives Q (bind r next)
unfolding bind
bind-gives (gives p) rest = rest _ p
bind-gives stops rest = stops

pub pick_gives : {A : Type 0} {P : A → Type 0} {r s : Result A} (t : Bool) → (t ≡ true → Gives P r) → (t ≡ false → Gives P s) → Gives P (pick t r s)
unfolding pick
pick_gives true yes' no' = yes' refl
pick_gives false yes' no' = no' refl

-- a state: what it holds while it goes on, and what it answered
pub data Stands (P : Standing → Type 0) (Q : Answer → Type 0) : State → Type 0 where
  goes : {s : Standing} → P s → Stands P Q (going s)
  ends : {a : Answer} → Q a → Stands P Q (over a)

pub settle-stands : {A : Type 0} {G : A → Type 0} {P : Standing → Type 0} {Q : Answer → Type 0} {r : Result A} {next : A → State} (at steps : ℕ)
    → Gives G r → ((why : Refusal) → Q (refused why at steps)) → ((x : A) → G x → Stands P Q (next x)) → Stands P Q (settle r at steps next)
unfolding settle
settle-stands at steps (gives g) refuses rest = rest _ g
settle-stands at steps stops refuses rest = ends (refuses _)

pub pick-stands : {P : Standing → Type 0} {Q : Answer → Type 0} {r s : State} (t : Bool) → (t ≡ true → Stands P Q r) → (t ≡ false → Stands P Q s) → Stands P Q (pick t r s)
unfolding pick
pick-stands true yes' no' = yes' refl
pick-stands false yes' no' = no' refl
