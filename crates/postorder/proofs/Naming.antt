-- A label in a long form names its statement: it is split into nothing, and what is sought by it is that statement.
use Prim.Native.Nat.{ℕ, zero, suc, ◌+◌, ◌<◌}
use mathlib.Core.Path.{◌≡◌, refl, sym, ap, ◌∙◌}
use mathlib.Core.Bool.{Bool, true, false}
use mathlib.Core.Logic.{◌⊎◌, inl, inr}
use mathlib.Core.Option.{none, some}
use mathlib.Core.List.Memᴰ
use mathlib.Core.List.{List, [], ◌∷◌}
use native.Mathlib.Omega.{arith}
use lib.ListN.{length, get_or}
use Rattle.frames.specs.Logic.{equal, pick, same}
use Rattle.frames.specs.Table.{within}
use Rattle.frames.specs.Database.{Statement, Database}
use Rattle.frames.specs.Facts.{◌∈◌, statement_of, LabelByte, small, capital, digit, hyphen, underscore, dot, Facts}
use Rattle.frames.proofs.Chains.{pick_first, pick_second, both_first, both-second, no-of-true, no-of-false, equal-yes, equal-no, equal-true}
use Rattle.frames.proofs.Tells.{both_true, true-not-false}
use Rattle.frames.proofs.Found.{same_true, same_self}
use Rattle.machine.specs.Chain.{unless}
use Rattle.machine.specs.Ground.{is_essential}
use Rattle.machine.specs.Reading.{colon, equals, cut, prepend, parts, mark_and_label, split_colon, split}
use Rattle.machine.specs.Memory.{Room, Memory}
use Rattle.machine.specs.Prepare.{first_from, bears, sought, bears_own, sought_own, or_else, sought_label, prepare_statement, prepare_named, ambiguous, prepare_normal}
use Rattle.machine.specs.Apply.{label_of}
use Rattle.machine.proofs.Every.{Every, none, also}

-- signs that no label has
pub not_byte : {b : ℕ} (c : ℕ) → LabelByte b → c < 45 ⊎ ((57 < c) × (c < 65)) → b ≡ c → ⊥
not_byte c (small l h) (inl k) e = omega arith
not_byte c (capital l h) (inl k) e = omega arith
not_byte c (digit l h) (inl k) e = omega arith
not_byte c (hyphen q) (inl k) e = omega arith
not_byte c (underscore q) (inl k) e = omega arith
not_byte c (dot q) (inl k) e = omega arith
not_byte c (small l h) (inr k) e = omega arith
not_byte c (capital l h) (inr k) e = omega arith
not_byte c (digit l h) (inr k) e = omega arith
not_byte c (hyphen q) (inr k) e = omega arith
not_byte c (underscore q) (inr k) e = omega arith
not_byte c (dot q) (inr k) e = omega arith

never-cut : (sign : ℕ) {xs : List ℕ} → sign < 45 ⊎ ((57 < sign) × (sign < 65)) → Every LabelByte xs → cut sign xs ≡ none
unfolding cut prepend
never-cut sign s none = refl
never-cut sign s (also l ls) = sym (pick_second _ (equal-no (not_byte sign l s)) (rw (never-cut sign s ls)))

-- a label is no `(` and no `?`
pub not-sign : (sign : ℕ) {xs : List ℕ} → sign < 45 ⊎ ((57 < sign) × (sign < 65)) → Every LabelByte xs → same xs (sign ∷ []) ≡ false
unfolding same
not-sign sign s none = refl
not-sign sign s (also l ls) = sym (both_first _ (equal-no (not_byte sign l s)) refl)

-- a label has no parts but itself
pub split-label : {xs : List ℕ} → Every LabelByte xs → split xs ≡ parts none none xs
unfolding split split_colon mark_and_label
split-label ls = rw (never-cut colon (inr (omega arith, omega arith)) ls, never-cut equals (inr (omega arith, omega arith)) ls)

-- the first statement that passes, where none before it does; and none where no statement passes
first-is : (test : Statement → Bool) (d : Statement) (i k : ℕ) (sts : List Statement) → k < length sts → test (get_or sts k d) ≡ true
    → ((j : ℕ) → j < k → test (get_or sts j d) ≡ false) → first_from test i sts ≡ some (i + k)
unfolding first_from
first-is test d i k [] l t f = absurd (omega arith)
first-is test d i zero (st ∷ sts) l t f =
    let e : i ≡ i + 0 = omega arith in
    sym (pick_first _ t (ap (λ (n : ℕ). some n) (sym e)))
first-is test d i (suc k) (st ∷ sts) l t f =
    let e : suc i + k ≡ i + suc k = omega arith in
    sym (pick_second _ (f 0 (omega arith))
    (sym (first-is test d (suc i) k sts (omega arith) t (λ j b. f (suc j) (omega arith)) ∙ ap (λ (n : ℕ). some n) e)))

first-none : (test : Statement → Bool) (d : Statement) (i : ℕ) (sts : List Statement)
    → ((j : ℕ) → j < length sts → test (get_or sts j d) ≡ false) → first_from test i sts ≡ none
unfolding first_from
first-none test d i [] f = refl
first-none test d i (st ∷ sts) f =
    sym (pick_second _ (f 0 (omega arith)) (sym (first-none test d (suc i) sts (λ j b. f (suc j) (omega arith)))))

not-true : (t : Bool) → (t ≡ true → ⊥) → t ≡ false
not-true false n = refl
not-true true n = absurd (n refl)

-- what a statement bears as $f, $a or $p, and as $e
bears-own : (st : Statement) → (st.kind ≡ 3 → ⊥) → bears st.label st ≡ true
unfolding bears is_essential
bears-own st k = sym (both-second (no-of-false (equal-no k)) (sym (same_self _)))

essential-bears-none : (label : List ℕ) (st : Statement) → st.kind ≡ 3 → bears label st ≡ false
unfolding bears is_essential
essential-bears-none label st e = sym (both_first _ (no-of-true (equal-yes e)) refl)

essential-bears : (label : List ℕ) (st : Statement) → st.kind ≡ 3 → st.label ≡ label → bears_own label st ≡ true
unfolding bears_own is_essential
essential-bears label st k e = sym (both-second (equal-yes k) (sym (rw e (same_self label))))

own-label : (label : List ℕ) (st : Statement) → bears_own label st ≡ true → st.label ≡ label
unfolding bears_own
own-label label st e = same_true _ _ (both_true _ _ e).1

-- what a long form may name: a statement before p; a $e that p lists; a $f in its scope
pub record Nameable (db : Database) (p s : ℕ) : Type 0 where
  pub before : s < p
  pub own : (statement_of db s).kind ≡ 3 → s ∈ (statement_of db p).hyps
  pub scope : (statement_of db s).kind ≡ 2 → within (statement_of db s).end p ≡ true

module _ (db : Database) (p : ℕ) (facts : Facts db) (there : p < length db.statements) where
  others-differ : (s j : ℕ) → s < length db.statements → j < length db.statements → (j ≡ s → ⊥)
      → bears (label_of db s) (statement_of db j) ≡ false
  unfolding bears label_of
  others-differ s j l k n =
      not-true _ (λ e. n (facts.labels_differ j s k l (same_true _ _ (both_true _ _ e).1)))

  sought-itself : (s : ℕ) → s < length db.statements → ((statement_of db s).kind ≡ 3 → ⊥) → sought db (label_of db s) ≡ some s
  unfolding sought statement_of label_of
  sought-itself s l n =
      let e : 0 + s ≡ s = omega arith in
      first-is (bears (label_of db s)) _ 0 s db.statements l (bears-own (statement_of db s) n)
      (λ j b. others-differ s j l (omega arith) (λ q. omega arith))
      ∙ ap (λ (n : ℕ). some n) e

  sought-none : (s : ℕ) → s < length db.statements → (statement_of db s).kind ≡ 3 → sought db (label_of db s) ≡ none
  unfolding sought statement_of
  sought-none s l k =
      first-none (bears (label_of db s)) _ 0 db.statements (λ j b. tried j b (equal j s) refl)
    where
      tried : (j : ℕ) → j < length db.statements → (t : Bool) → equal j s ≡ t → bears (label_of db s) (statement_of db j) ≡ false
      tried j b true e = rw (equal-true j s e) (essential-bears-none _ _ k)
      tried j b false e = others-differ s j l b (λ q. true-not-false (equal-yes q) e)

  own-itself : (s : ℕ) (hs : List ℕ) → s < length db.statements → (statement_of db s).kind ≡ 3 → s ∈ hs
      → ((h : ℕ) → h ∈ hs → h < length db.statements) → sought_own db (label_of db s) hs ≡ some s
  unfolding sought_own label_of
  own-itself s [] l k m known = absurd (Memᴰ.not-nil m)
  own-itself s (h ∷ hs) l k m known =
      tried (λ n. own-itself s hs l k n (λ g i. known g (Memᴰ.tail i))) (bears_own (label_of db s) (statement_of db h)) refl (Memᴰ.cases_cons m)
    where
      by-label : bears_own (label_of db s) (statement_of db h) ≡ true → h ≡ s
      by-label e = facts.labels_differ h s (known h (Memᴰ.head refl)) l (own-label _ _ e)

      tried : (s ∈ hs → sought_own db (label_of db s) hs ≡ some s) → (t : Bool) → bears_own (label_of db s) (statement_of db h) ≡ t → (s ≡ h) ⊎ (s ∈ hs)
          → pick (bears_own (label_of db s) (statement_of db h)) (some h) (sought_own db (label_of db s) hs) ≡ some s
      tried later true e w = sym (pick_first _ e (ap (λ (n : ℕ). some n) (sym (by-label e))))
      tried later false e (inl q) = absurd (true-not-false (essential-bears (label_of db s) (statement_of db h) (rw q at k) (ap (λ (n : ℕ). (statement_of db n).label) (sym q))) e)
      tried later false e (inr n) = sym (pick_second _ e (sym (later n)))

  -- a label names its statement
  pub named-itself : (s : ℕ) → Nameable db p s → sought_label db p (label_of db s) ≡ some s
  unfolding sought_label or_else
  named-itself s n = tried (equal (statement_of db s).kind 3) refl
    where
      here : s < length db.statements
      here = let b = n.before in omega arith

      tried : (t : Bool) → equal (statement_of db s).kind 3 ≡ t
          → or_else (sought db (label_of db s)) (sought_own db (label_of db s) (statement_of db p).hyps) ≡ some s
      tried true e =
          let k = equal-true _ _ e in
          rw (sought-none s here k)
          (own-itself s _ here k (n.own k) (λ h m. let a = ((facts.statement p there).hyps_active h m).earlier in omega arith))
      tried false e = rw (sought-itself s here (λ k. true-not-false (equal-yes k) e))

  -- so its token is prepared as that statement
  pub prepared-itself : (room : Room) (m : Memory) (s : ℕ) → Nameable db p s
      → prepare_normal db p room m (parts none none (label_of db s)) ≡ prepare_statement db p room m s
  unfolding prepare_normal ambiguous parts unless prepare_named
  prepared-itself room m s n = rw (named-itself s n)
