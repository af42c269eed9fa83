-- The variables numbered by a run are all different; so if they stand among others, they are no more than those.
use Prim.Native.Nat.{ℕ, ◌≤◌}
use mathlib.Core.Path.{◌≡◌, refl, sym, ap}
use mathlib.Core.Bool.{Bool, true, false}
use mathlib.Core.Logic.{◌⊎◌, inl, inr}
use mathlib.Core.List.Memᴰ
use mathlib.Core.List.{List, [], ◌∷◌, ◌++◌}
use native.Mathlib.Omega.{arith}
use lib.ListN.{length, length-append}
use Rattle.frames.specs.Logic.{equal, pick}
use Rattle.frames.specs.Facts.{◌∈◌}
use Rattle.frames.proofs.Chains.{equal-yes}
use Rattle.frames.proofs.Tells.{true-not-false}
use Rattle.machine.specs.Ground.{among}
use Rattle.machine.specs.Prepare.{numbered}
use Rattle.machine.specs.Run.{all_numbered}
use Rattle.postorder.proofs.KeptPairs.{any_of, among-member}

-- no member stands twice
pub data Once : List ℕ → Type 0 where
  none : Once []
  also : {x : ℕ} {xs : List ℕ} → (x ∈ xs → ⊥) → Once xs → Once (x ∷ xs)

-- every member of the one is a member of the other
pub record Inside (xs ys : List ℕ) : Type 0 where
  pub each : (x : ℕ) → x ∈ xs → x ∈ ys

-- where a member stands
record Split (x : ℕ) (ys : List ℕ) : Type 0 where
  front : List ℕ
  back : List ℕ
  is : ys ≡ front ++ (x ∷ back)

split_at : (x : ℕ) (ys : List ℕ) → x ∈ ys → Split x ys
split_at x [] m = absurd (Memᴰ.not-nil m)
split_at x (y ∷ ys) m = found (split_at x ys) (Memᴰ.cases_cons m)
  where
    found : (x ∈ ys → Split x ys) → (x ≡ y) ⊎ (x ∈ ys) → Split x (y ∷ ys)
    found later (inl e) = record { front = []; back = ys; is = rw e refl }
    found later (inr n) = let s = later n in record { front = y ∷ s.front; back = s.back; is = ap (λ (zs : List ℕ). y ∷ zs) s.is }

-- what is not x stands before or after it
elsewhere : (z x : ℕ) (front back : List ℕ) → z ∈ front ++ (x ∷ back) → (z ≡ x → ⊥) → z ∈ front ++ back
elsewhere z x front back m n = found (Memᴰ.append_cases front m)
  where
    later : (z ≡ x) ⊎ (z ∈ back) → z ∈ front ++ back
    later (inl e) = absurd (n e)
    later (inr k) = Memᴰ.append_right front k

    found : (z ∈ front) ⊎ (z ∈ (x ∷ back)) → z ∈ front ++ back
    found (inl k) = Memᴰ.append_left back k
    found (inr k) = later (Memᴰ.cases_cons k)

pub no_more : {xs : List ℕ} (ys : List ℕ) → Once xs → ((x : ℕ) → x ∈ xs → x ∈ ys) → length xs ≤ length ys
no_more ys none f = omega arith
no_more ys (also {x} {xs} n o) f =
    let s = split_at x ys (f x (Memᴰ.head refl)) in
    let rest : length xs ≤ length (s.front ++ s.back) =
    no_more (s.front ++ s.back) o
    (λ z m. elsewhere z x s.front s.back (rw s.is at (f z (Memᴰ.tail m))) (λ e. n (rw e at m))) in
    rw s.is (omega (arith, length-append s.front (x ∷ s.back), length-append s.front s.back))

-- one more at the end
once_more : {xs : List ℕ} (v : ℕ) → Once xs → (v ∈ xs → ⊥) → Once (xs ++ (v ∷ []))
once_more v none n = also (λ m. Memᴰ.not-nil m) none
once_more v (also {x} {xs} k o) n =
    also (λ m. apart (Memᴰ.append_cases xs m)) (once_more v o (λ m. n (Memᴰ.tail m)))
  where
    apart : (x ∈ xs) ⊎ (x ∈ (v ∷ [])) → ⊥
    apart (inl m) = k m
    apart (inr m) = n (Memᴰ.head (sym (Memᴰ.eq_of_singleton m)))

among_of : (vs : List ℕ) (v : ℕ) → v ∈ vs → among vs v ≡ true
unfolding among
among_of vs v m = any_of (equal v) vs v m (equal-yes refl)

-- a variable that is numbered: the others stay, it is among them, and still none stands twice
pub record Numbers (vs : List ℕ) (v : ℕ) (ws : List ℕ) : Type 0 where
  pub stays : (x : ℕ) → x ∈ vs → x ∈ ws
  pub has : v ∈ ws
  pub only : (x : ℕ) → x ∈ ws → (x ≡ v) ⊎ (x ∈ vs)
  pub once : Once vs → Once ws

pub numbers : (vs : List ℕ) (v : ℕ) → Numbers vs v (numbered vs v)
unfolding numbered pick
numbers vs v = tried (among vs v) refl
  where
    added : (x : ℕ) → (x ∈ vs) ⊎ (x ∈ (v ∷ [])) → (x ≡ v) ⊎ (x ∈ vs)
    added x (inl m) = inr m
    added x (inr m) = inl (Memᴰ.eq_of_singleton m)

    tried : (t : Bool) → among vs v ≡ t → Numbers vs v (pick t vs (vs ++ (v ∷ [])))
    tried true e = record { stays = λ x m. m; has = among-member vs v e; only = λ x m. inr m; once = λ o. o }
    tried false e =
        record {
          stays = λ x m. Memᴰ.append_left (v ∷ []) m;
          has = Memᴰ.append_right vs (Memᴰ.head refl);
          only = λ x m. added x (Memᴰ.append_cases vs m);
          once = λ o. once_more v o (λ m. true-not-false (among_of vs v m) e);
        }

pub all_once : (vs xs : List ℕ) → Once vs → Once (all_numbered vs xs)
unfolding all_numbered
all_once vs [] o = o
all_once vs (x ∷ xs) o = all_once (numbered vs x) xs ((numbers vs x).once o)
