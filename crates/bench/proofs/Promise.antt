-- The promise of the call for one statement: no two outcomes keep it, and an answer of 0 means a derivation.
use Prim.Native.Nat.{ℕ}
use mathlib.Core.Path.{◌≡◌, sym, ◌∙◌}
use mathlib.Core.List.{List}
use Rattle.book.specs.Book.{Tree}
use Rattle.frames.specs.Database.{database}
use Rattle.machine.specs.Answer.{Answer}
use Rattle.machine.specs.Promise.{Proves}
use Rattle.machine.proofs.Acceptance.{zero-means-derivation}
use Rattle.told.specs.declared.Told.{Told}
use Rattle.told.specs.Says.{Says}
use Rattle.bench.specs.Calls.{room_in, Verified}

abbrev told : (number place steps : ℕ) → Told
told n p s = record { number = n; place = p; steps = s }

pub one_told : {a : Answer} {t u : Told} → Says a t → Says a u → t ≡ u
one_told {a} {t} {u} x y =
    let n : t.number ≡ u.number = x.number ∙ sym y.number in
    let p : t.place ≡ u.place = x.place ∙ sym y.place in
    let s : t.steps ≡ u.steps = x.steps ∙ sym y.steps in
    let whole : told t.number t.place t.steps ≡ told u.number u.place u.steps = cc in
    whole

-- all that a caller has after the call
pub record Outcome : Type 0 where
  pub told : Told
  pub pool : List ℕ
  pub stack : List ℕ
  pub places : List ℕ

abbrev outcome : Told → (pool stack places : List ℕ) → Outcome
outcome t pool stack places = record { told = t; pool = pool; stack = stack; places = places }

-- no two outcomes keep the promise
pub one-outcome : (f : List ℕ) (p : ℕ) (pool stack places : List ℕ) (x y : Outcome)
    → Verified f p pool stack places x.pool x.stack x.places x.told
    → Verified f p pool stack places y.pool y.stack y.places y.told → x ≡ y
one-outcome f p pool stack places x y v w =
    let t = one_told v.says w.says in
    let a : x.pool ≡ y.pool = v.zeroed.pool_zero ∙ sym w.zeroed.pool_zero in
    let b : x.stack ≡ y.stack = v.zeroed.stack_zero ∙ sym w.zeroed.stack_zero in
    let c : x.places ≡ y.places = v.zeroed.places_zero ∙ sym w.zeroed.places_zero in
    let whole : outcome x.told x.pool x.stack x.places ≡ outcome y.told y.pool y.stack y.places = cc in
    whole

-- what is answered does not depend on the bytes that the lent buffers held
pub held-bytes-free : (f : List ℕ) (p : ℕ) (pool stack places pool₂ stack₂ places₂ : List ℕ) (x y : Outcome)
    → room_in pool stack places ≡ room_in pool₂ stack₂ places₂
    → Verified f p pool stack places x.pool x.stack x.places x.told
    → Verified f p pool₂ stack₂ places₂ y.pool y.stack y.places y.told → x.told ≡ y.told
held-bytes-free f p pool stack places pool₂ stack₂ places₂ x y e v w =
    one_told v.says (rw e w.says)

-- demand 2: if the call answers 0, there is a derivation of the claim from its own $e, the active $f and earlier assertions, which
-- keeps every mandatory pair
pub zero-derives : {f : List ℕ} {p : ℕ} {pool stack places pool' stack' places' : List ℕ} {t : Told}
    → Verified f p pool stack places pool' stack' places' t → t.number ≡ 0 → (tree : Tree) × Proves (database f) p tree
zero-derives {f} {p} {pool} {stack} {places} v zero =
    zero-means-derivation f p (room_in pool stack places) (sym v.says.number ∙ zero)
