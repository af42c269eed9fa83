-- How a call is answered: refused, with the pool as it was, or by the number of what was added or compared.
use Prim.Native.Nat.{ℕ, ◌≤◌}
use mathlib.Core.Path.{◌≡◌, refl, sym, ◌∙◌, ap}
use mathlib.Core.Bool.{Bool, true, false}
use mathlib.Core.List.{List}
use lib.ListN.{length}
use Rattle.frames.specs.Logic.{both, same}
use Rattle.frames.proofs.Chains.{pick_first, pick_second, at_most-true}
use Rattle.frames.proofs.Tells.{true-not-false, both_true}
use Rattle.packed.specs.Pool.{range, Adds, Untouched, Grown}
use Rattle.packed.proofs.Adding.{adds_same}
use Rattle.packed_calls.specs.Answers.{refused, number_of, truth_of, roomed, lies, compared, Answered, Says, Copies}

-- what is said of lists of symbols: nothing where the ranges are wrong, and else what is said of the value
module _ {A : Type 0} {right : Bool} {number : A → ℕ} {said : A → Type 0} {answer : ℕ} where
  says-refused : right ≡ false → Says right number said answer
  says-refused e = record { says = λ t. absurd (true-not-false t e) }

  says-told : (x : A) → answer ≡ number x → said x → Says right number said answer
  says-told x e s = record { says = λ t. (x, (e, s)) }

-- the ranges are wrong
pub answered-refused : {right : Bool} {said : Grown → Type 0} (bytes : List ℕ) (used limit : ℕ) (pool : List ℕ) → right ≡ false
    → Answered right bytes used limit pool pool refused × Says right number_of said refused
answered-refused bytes used limit pool e = (
  record { answers = pick_second _ e refl; adds = λ t. absurd (true-not-false t e); leaves = λ f. refl },
  says-refused e,
)

-- they are right, and the bytes were added
pub answered-added : {right : Bool} {said : Grown → Type 0} {bytes : List ℕ} {used limit : ℕ} {pool pool' : List ℕ} {g : Grown} {n : ℕ}
    → right ≡ true → Adds bytes used limit pool pool' g → said g → n ≡ number_of g
    → Answered right bytes used limit pool pool' n × Says right number_of said n
answered-added {bytes = bytes} {used} {limit} {pool} {pool'} {g} e a s m = (
  record {
    answers = pick_first _ e (m ∙ ap number_of a.answers);
    adds = λ t. rw a.answers at a;
    leaves = λ f. absurd (true-not-false e f);
  },
  says-told g m s,
)

pub compared-refused : {right : Bool} {said : Bool → Type 0} (from to : ℕ) (pool text : List ℕ) → right ≡ false
    → (refused ≡ compared right from to pool text) × Says right truth_of said refused
unfolding compared
compared-refused from to pool text e = (pick_second _ e refl, says-refused e)

pub compared-told : {right t : Bool} {said : Bool → Type 0} {n : ℕ} (from to : ℕ) (pool text : List ℕ) → right ≡ true
    → t ≡ same (range from to pool) text → said t → n ≡ truth_of t → (n ≡ compared right from to pool text) × Says right truth_of said n
unfolding compared
compared-told {t = t} from to pool text e s l m = (pick_first _ e (m ∙ ap truth_of s), says-told t m l)

-- a copy of a range that spells a list adds the list's packed text
pub copies : {from to used limit : ℕ} {pool pool' : List ℕ} {g : Grown} → Adds (range from to pool) used limit pool pool' g
    → Untouched pool pool' g → Copies from to used limit pool pool' g
copies a u = record { adds = λ db xs e. adds_same e a; full = u }

-- two tests at once
pub both_yes : {t u : Bool} → t ≡ true → u ≡ true → both t u ≡ true
unfolding both
both_yes e h = rw e h

pub first-no : {t : Bool} (u : Bool) → t ≡ false → both t u ≡ false
unfolding both
first-no u e = rw e refl

pub second-no : (t : Bool) {u : Bool} → u ≡ false → both t u ≡ false
unfolding both
second-no true e = e
second-no false e = refl

-- what the tests of the ranges tell where they hold
pub roomed-known : {used limit : ℕ} (pool : List ℕ) → true ≡ roomed used limit pool → (used ≤ limit) × (limit ≤ length pool)
unfolding roomed
roomed-known pool e = let h = both_true _ _ (sym e) in (at_most-true _ _ h.0, at_most-true _ _ h.1)

pub lies-known : {from to size : ℕ} → true ≡ lies from to size → (from ≤ to) × (to ≤ size)
unfolding lies
lies-known e = let h = both_true _ _ (sym e) in (at_most-true _ _ h.0, at_most-true _ _ h.1)
