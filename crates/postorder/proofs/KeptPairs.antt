-- What the book says of disjointness passes the test: the pairs that a derivation keeps are kept by the substitution that a run finds.
use Prim.Native.Nat.{ℕ}
use mathlib.Core.Path.{◌≡◌, refl, sym}
use mathlib.Core.Bool.{Bool, true, false}
use mathlib.Core.Logic.{◌⊎◌, inl, inr}
use mathlib.Core.List.Memᴰ
use mathlib.Core.List.{List, [], ◌∷◌}
use Rattle.book.specs.Book.{Substitution, Disjoint, Occurs, Keeps}
use Rattle.frames.specs.Logic.{equal, both, either, any, all}
use Rattle.frames.specs.Database.{Database}
use Rattle.frames.specs.Facts.{◌∈◌, statement_of, floated}
use Rattle.frames.proofs.Chains.{both-second, either_first, equal-yes, equal-true}
use Rattle.frames.proofs.Tells.{both_true, any-witness}
use Rattle.machine.specs.Ground.{is_variable, is_float, among, add_if, mandatory, mandatory_pairs, frame_pairs, ground}
use Rattle.machine.specs.Apply.{is_pair, disjoint, variables_of, disjoint_from, keeps}

pub all_of : {A : Type 0} (p : A → Bool) (xs : List A) → ((x : A) → x ∈ xs → p x ≡ true) → all p xs ≡ true
unfolding all
all_of p [] f = refl
all_of p (x ∷ xs) f = sym (both-second (f x (Memᴰ.head refl)) (sym (all_of p xs (λ y m. f y (Memᴰ.tail m)))))

pub either-yes : (t u : Bool) → u ≡ true → either t u ≡ true
unfolding either
either-yes true u e = refl
either-yes false u e = e

pub any_of : {A : Type 0} (p : A → Bool) (xs : List A) (x : A) → x ∈ xs → p x ≡ true → any p xs ≡ true
unfolding any
any_of p [] x m e = absurd (Memᴰ.not-nil m)
any_of p (y ∷ ys) x m e = found (λ n. any_of p ys x n e) (Memᴰ.cases_cons m)
  where
    found : (x ∈ ys → any p ys ≡ true) → (x ≡ y) ⊎ (x ∈ ys) → either (p y) (any p ys) ≡ true
    found later (inl q) = sym (either_first _ (rw q at e) refl)
    found later (inr n) = either-yes _ _ (later n)

-- a member of a list that is picked by a test
pub if-cases : {A : Type 0} {x y : A} (t : Bool) {xs : List A} → x ∈ add_if t y xs → ((x ≡ y) × (t ≡ true)) ⊎ (x ∈ xs)
unfolding add_if
if-cases true m = told (Memᴰ.cases_cons m)
  where
    told : {A : Type 0} {x y : A} {xs : List A} → (x ≡ y) ⊎ (x ∈ xs) → ((x ≡ y) × (true ≡ true)) ⊎ (x ∈ xs)
    told (inl e) = inl (e, refl)
    told (inr n) = inr n
if-cases false m = inr m

module _ (db : Database) where
  listed-occurs : (p : ℕ) (v : ℕ) (ss : List ℕ) → v ∈ variables_of db ss → Occurs (ground db p) v ss
  unfolding variables_of ground
  listed-occurs p v [] m = absurd (Memᴰ.not-nil m)
  listed-occurs p v (s ∷ ss) m = found (listed-occurs p v ss) (if-cases (is_variable db s) m)
    where
      found : (v ∈ variables_of db ss → Occurs (ground db p) v ss) → ((v ≡ s) × (is_variable db s ≡ true)) ⊎ (v ∈ variables_of db ss)
          → Occurs (ground db p) v (s ∷ ss)
      found later (inl q) = record { variable = rw q.0 q.1; stands = Memᴰ.head q.0 }
      found later (inr n) = let o = later n in record { variable = o.variable; stands = Memᴰ.tail o.stands }

  disjoint-passes : (p u v : ℕ) → Disjoint (ground db p) u v → disjoint (statement_of db p).pairs u v ≡ true
  unfolding disjoint is_pair ground
  disjoint-passes p u v d = declared d.declared
    where
      declared : ((u, v) ∈ (statement_of db p).pairs) ⊎ ((v, u) ∈ (statement_of db p).pairs) → any (is_pair u v) (statement_of db p).pairs ≡ true
      declared (inl m) = any_of (is_pair u v) _ (u, v) m (sym (either_first _ (sym (both-second (equal-yes refl) (sym (equal-yes refl)))) refl))
      declared (inr m) = any_of (is_pair u v) _ (v, u) m (either-yes _ _ (sym (both-second (equal-yes refl) (sym (equal-yes refl)))))

  keeps-passes : (p : ℕ) (σ : Substitution) (q : ℕ × ℕ) → Keeps (ground db p) σ q → keeps db (statement_of db p).pairs σ q ≡ true
  unfolding keeps disjoint_from
  keeps-passes p σ q k =
      all_of _ _ (λ u m. all_of _ _ (λ v n. disjoint-passes p u v (k u v (listed-occurs p u _ m) (listed-occurs p v _ n))))

  -- a mandatory variable has a listed $f
  mandatory-float : (P : ℕ → Type 0) (hs : List ℕ) → ((h : ℕ) → h ∈ hs → is_float (statement_of db h) ≡ true → P (floated (statement_of db h)))
      → (v : ℕ) → v ∈ mandatory db hs → P v
  unfolding mandatory
  mandatory-float P [] f v m = absurd (Memᴰ.not-nil m)
  mandatory-float P (h ∷ hs) f v m =
      found (mandatory-float P hs (λ g i. f g (Memᴰ.tail i)) v) (if-cases (is_float (statement_of db h)) m)
    where
      found : (v ∈ mandatory db hs → P v)
          → ((v ≡ floated (statement_of db h)) × (is_float (statement_of db h) ≡ true)) ⊎ (v ∈ mandatory db hs) → P v
      found later (inl q) = rw q.0 (f h (Memᴰ.head refl) q.1)
      found later (inr n) = later n

pub among-member : (vs : List ℕ) (v : ℕ) → among vs v ≡ true → v ∈ vs
unfolding among
among-member vs v e =
    let w = any-witness (equal v) vs e in
    rw (equal-true v w.0 w.2) w.1

-- both members of a mandatory pair are mandatory
members-among : (vs : List ℕ) (qs : List (ℕ × ℕ)) (q : ℕ × ℕ) → q ∈ mandatory_pairs vs qs → (q.0 ∈ vs) × (q.1 ∈ vs)
unfolding mandatory_pairs
members-among vs [] q m = absurd (Memᴰ.not-nil m)
members-among vs (r ∷ rs) q m = found (members-among vs rs q) (if-cases (both (among vs r.0) (among vs r.1)) m)
  where
    found : (q ∈ mandatory_pairs vs rs → (q.0 ∈ vs) × (q.1 ∈ vs))
        → ((q ≡ r) × (both (among vs r.0) (among vs r.1) ≡ true)) ⊎ (q ∈ mandatory_pairs vs rs) → (q.0 ∈ vs) × (q.1 ∈ vs)
    found later (inl e) =
        let w = both_true _ _ e.1 in
        rw e.0 (among-member vs r.0 w.0, among-member vs r.1 w.1)
    found later (inr n) = later n

module _ (db : Database) (p a : ℕ) (σ τ : Substitution)
    (agree : (h : ℕ) → h ∈ (statement_of db a).hyps → is_float (statement_of db h) ≡ true → σ (floated (statement_of db h)) ≡ τ (floated (statement_of db h))) where
  -- a substitution that agrees on the listed $f keeps the same pairs
  pub pairs-pass : ((q : ℕ × ℕ) → q ∈ frame_pairs db (statement_of db a) → Keeps (ground db p) τ q)
      → all (keeps db (statement_of db p).pairs σ) (frame_pairs db (statement_of db a)) ≡ true
  unfolding frame_pairs
  pairs-pass kept = all_of _ _ (λ q m. keeps-passes db p σ q (same-images q m))
    where
      same-images : (q : ℕ × ℕ) → q ∈ mandatory_pairs (mandatory db (statement_of db a).hyps) (statement_of db a).pairs → Keeps (ground db p) σ q
      same-images q m u v first second =
          let both = members-among _ _ q m in
          let one : σ q.0 ≡ τ q.0 = mandatory-float db (λ w. σ w ≡ τ w) _ agree q.0 both.0 in
          let two : σ q.1 ≡ τ q.1 = mandatory-float db (λ w. σ w ≡ τ w) _ agree q.1 both.1 in
          kept q m u v (rw one at first) (rw two at second)
