-- How a chain of tests is decided, for the functions that return at the first test that settles the answer: each law takes one
-- test away, so that a proof follows the code's own returns.
use Rattle.std.proofs.Common.{Some}
use Prim.Native.Nat.{ℕ, ◌<◌, ◌≤◌}
use mathlib.Core.Path.{◌≡◌, refl, sym, ap, ◌∙◌}
use mathlib.Core.Bool.{Bool, true, false}
use mathlib.Core.List.{List, [], ◌∷◌}
use lib.Dec.{eqb}
use borrow.Author.Tests.{lt-ltb, le-ltb, le-leb, lt-leb, eq-eqb, ne_eqb, ltb-true, ltb-false, leb-true, leb-false, eqb-true, eqb-false}
use Rattle.frames.specs.Verdict.{unless, Fault}
use Rattle.frames.specs.declared.Refusal.{Refusal}
use Rattle.frames.specs.Logic.{below, at_most, equal, pick, either, both, no, one_of}

pub pick_first : {A : Type 0} {t : Bool} {x a : A} (b : A) → t ≡ true → x ≡ a → x ≡ pick t a b
unfolding pick
pick_first b e h = rw e h

pub pick_second : {A : Type 0} {t : Bool} {x b : A} (a : A) → t ≡ false → x ≡ b → x ≡ pick t a b
unfolding pick
pick_second a e h = rw e h

pub either_first : {t x : Bool} (u : Bool) → t ≡ true → x ≡ true → x ≡ either t u
unfolding either
either_first u e h = rw e h

pub either_second : {t u x : Bool} → t ≡ false → x ≡ u → x ≡ either t u
unfolding either
either_second e h = rw e h

pub both_first : {t x : Bool} (u : Bool) → t ≡ false → x ≡ false → x ≡ both t u
unfolding both
both_first u e h = rw e h

pub both-second : {t u x : Bool} → t ≡ true → x ≡ u → x ≡ both t u
unfolding both
both-second e h = rw e h

pub no-first : {t x : Bool} → t ≡ true → x ≡ false → x ≡ no t
unfolding no
no-first e h = rw e h

pub no_second : {t x : Bool} → t ≡ false → x ≡ true → x ≡ no t
unfolding no
no_second e h = rw e h

pub no-of-true : {t : Bool} → t ≡ true → no t ≡ false
unfolding no
no-of-true e = rw e refl

pub no-of-false : {t : Bool} → t ≡ false → no t ≡ true
unfolding no
no-of-false e = rw e refl

pub one_later : {t x : Bool} (ts : List Bool) → t ≡ false → x ≡ one_of ts → x ≡ one_of (t ∷ ts)
unfolding one_of either
one_later ts e h = rw e h

pub one_last : {x : Bool} → x ≡ false → x ≡ one_of []
unfolding one_of
one_last h = h

-- the tests on numbers, forwards
pub below-yes : {a b : ℕ} → a < b → below a b ≡ true
unfolding below
below-yes h = lt-ltb _ _ h

pub below-no : {a b : ℕ} → b ≤ a → below a b ≡ false
unfolding below
below-no h = le-ltb _ _ h

pub at_most-yes : {a b : ℕ} → a ≤ b → at_most a b ≡ true
unfolding at_most
at_most-yes h = le-leb _ _ h

pub at_most-no : {a b : ℕ} → b < a → at_most a b ≡ false
unfolding at_most
at_most-no h = lt-leb _ _ h

pub equal-yes : {a b : ℕ} → a ≡ b → equal a b ≡ true
unfolding equal
equal-yes h = eq-eqb _ _ h

pub equal-no : {a b : ℕ} → (a ≡ b → ⊥) → equal a b ≡ false
unfolding equal
equal-no h = ne_eqb _ _ h

-- the code's own comparison is the test
pub equal-eqb : (a b : ℕ) → eqb a b ≡ equal a b
unfolding equal
equal-eqb a b = refl

-- and backwards
pub below_true : (a b : ℕ) → below a b ≡ true → a < b
unfolding below
below_true a b e = ltb-true a b e

pub below_false : (a b : ℕ) → below a b ≡ false → b ≤ a
unfolding below
below_false a b e = ltb-false a b e

pub at_most-true : (a b : ℕ) → at_most a b ≡ true → a ≤ b
unfolding at_most
at_most-true a b e = leb-true a b e

pub at_most-false : (a b : ℕ) → at_most a b ≡ false → b < a
unfolding at_most
at_most-false a b e = leb-false a b e

pub equal-true : (a b : ℕ) → equal a b ≡ true → a ≡ b
unfolding equal
equal-true a b e = eqb-true a b e

pub equal-false : (a b : ℕ) → equal a b ≡ false → a ≡ b → ⊥
unfolding equal
equal-false a b e = eqb-false a b e

-- Answers carried along equations: what a callee tells of the value that it was handed, told of the value that the definition
-- names. A proof that hands these laws its facts is checked much quicker than one by `cc` over all that is known at its place.
-- Here `r` answers for x, so it answers for y
pub moved : {A B : Type 0} (p : A → B) {x y : A} {r : B} → r ≡ p x → x ≡ y → r ≡ p y
moved p e g = e ∙ ap p g

-- and where `r` is known
pub told : {A B : Type 0} (p : A → B) {x y : A} {r b : B} → r ≡ p x → x ≡ y → r ≡ b → p y ≡ b
told p e g h = sym (moved p e g) ∙ h

-- row 5 on answers that are equal
pub reference-same : {d d' k k' g g' v v' p p' r r' a a' : Bool} → d ≡ d' → k ≡ k' → g ≡ g' → v ≡ v' → p ≡ p' → r ≡ r' → a ≡ a'
    → one_of (no d ∷ no k ∷ both g (no v) ∷ no p ∷ no r ∷ no a ∷ []) ≡ one_of (no d' ∷ no k' ∷ both g' (no v') ∷ no p' ∷ no r' ∷ no a' ∷ [])
reference-same d k g v p r a = cc

-- the refusals of a record, in their order
pub unless-stop : {t : Bool} {why : Refusal} {x : Fault} (rest : Fault) → t ≡ true → x ≡ Some why → x ≡ unless t why rest
unfolding unless
unless-stop rest e h = rw e h

pub unless-skip : {t : Bool} {x rest : Fault} (why : Refusal) → t ≡ false → x ≡ rest → x ≡ unless t why rest
unfolding unless
unless-skip why e h = rw e h
