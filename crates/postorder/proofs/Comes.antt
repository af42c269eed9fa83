-- What comes out of a chain that can only fail for lack of room: it has a property, or the refusal is 43 or 45.
use mathlib.Core.Path.{◌≡◌}
use mathlib.Core.Bool.{Bool, true, false}
use Rattle.frames.specs.Logic.{pick}
use Rattle.machine.specs.declared.Refusal.{Refusal}
use Rattle.machine.specs.declared.Refusal.TheVariants.{PoolFull, StackFull}
use Rattle.machine.specs.Chain.{Result, fine, stop, unless, bind}

-- the refusals for lack of room that the run of a long form may give (46 needs places, and 44 a 257th variable)
pub data Lacks : Refusal → Type 0 where
  pool_full : Lacks PoolFull
  stack_full : Lacks StackFull

pub data Comes {A : Type 0} (P : A → Type 0) : Result A → Type 0 where
  comes : {x : A} → P x → Comes P (fine x)
  lacks : {why : Refusal} → Lacks why → Comes P (stop why)

-- a test that does not hold
pub unless_not : {A : Type 0} {P : A → Type 0} {r : Result A} {t : Bool} (why : Refusal) → t ≡ false → Comes P r → Comes P (unless t why r)
unfolding unless
unless_not why e c = rw e c

-- a test for room
pub unless-lacks : {A : Type 0} {P : A → Type 0} {r : Result A} {why : Refusal} (t : Bool) → Lacks why → Comes P r → Comes P (unless t why r)
unfolding unless
unless-lacks true l c = lacks l
unless-lacks false l c = c

pub bind-comes : {A B : Type 0} {P : A → Type 0} {Q : B → Type 0} {r : Result A} {next : A → Result B}
    → Comes P r → ((x : A) → P x → Comes Q (next x)) → Comes Q (bind r next)
unfolding bind
bind-comes (comes p) rest = rest _ p
bind-comes (lacks l) rest = lacks l

-- the two parts of such a chain
pub bind-parts : {A B : Type 0} {Q : B → Type 0} (r : Result A) {next : A → Result B} → Comes Q (bind r next) → Comes (λ x. Comes Q (next x)) r
unfolding bind
bind-parts (fine x) c = comes c
bind-parts (stop why) (lacks l) = lacks l

pub pick_yes : {A : Type 0} {P : A → Type 0} {r : Result A} {t : Bool} (s : Result A) → t ≡ true → Comes P r → Comes P (pick t r s)
unfolding pick
pick_yes s e c = rw e c

pub pick-not : {A : Type 0} {P : A → Type 0} {s : Result A} {t : Bool} (r : Result A) → t ≡ false → Comes P s → Comes P (pick t r s)
unfolding pick
pick-not r e c = rw e c
