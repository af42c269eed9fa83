-- Adding to the pool: the two answers, and adding one text after another.
use Rattle.std.proofs.Common.{Some, None}
use Prim.Native.Nat.{ℕ, ◌+◌, ◌≤◌, ◌<◌}
use mathlib.Core.Path.{◌≡◌, refl, ◌∙◌, ap}
use mathlib.Core.List.{List, [], ◌∷◌}
use native.Mathlib.Omega.{arith}
use lib.ListN.{length, take, drop}
use Rattle.frames.proofs.Chains.{pick_first, pick_second, below-yes, below-no}
use Rattle.frames.proofs.Tells.{true-not-false}
use Rattle.packed.specs.Packing.{ended}
use Rattle.packed.specs.Pool.{written, grown, Adds, Untouched, Grown}
use Rattle.packed.proofs.Written.{written-length, written-take, written-past}

-- a name of no bytes stays as it is
pub ended-none : (name : List ℕ) → length name ≤ 0 → ended name ≡ name
unfolding ended
ended-none [] h = refl
ended-none (b ∷ bs) h = absurd (omega arith)

pub grown-full : (size used limit : ℕ) → limit < used + size → None ≡ grown size used limit
unfolding grown
grown-full size used limit l = pick_first _ (below-yes l) refl

pub grown-to : (size used limit n : ℕ) → n ≡ used + size → n ≤ limit → Some n ≡ grown size used limit
unfolding grown
grown-to size used limit n e l = pick_second None (below-no (omega arith)) (ap Some e)

-- there is no room, and nothing was written
pub adds-full : (bytes pool : List ℕ) {used limit : ℕ} → limit < used + length bytes → Adds bytes used limit pool pool None
adds-full bytes pool l =
    record {
      answers = grown-full (length bytes) _ _ l;
      sized = refl;
      kept = refl;
      past = refl;
      holds = λ e. absurd (true-not-false (below-yes l) e);
    }

-- what is past the limit stays
past-written : (bytes pool pool' : List ℕ) (used limit n : ℕ) → pool' ≡ written bytes used pool → n ≡ used + length bytes → n ≤ limit
    → limit ≤ length pool → drop limit pool' ≡ drop limit pool
past-written bytes pool pool' used limit n w e l m =
    ap (λ (p : List ℕ). drop limit p) w ∙ written-past bytes used pool limit (omega arith) (omega arith)

-- there is room, and the bytes were written
pub adds-to : {bytes pool pool' : List ℕ} {used limit n : ℕ} → n ≡ used + length bytes → n ≤ limit → limit ≤ length pool
    → pool' ≡ written bytes used pool → Adds bytes used limit pool pool' (Some n)
adds-to {bytes} {pool} {pool'} {used} e l m w =
    record {
      answers = grown-to (length bytes) _ _ _ e l;
      sized = ap length w ∙ written-length bytes used pool (omega arith);
      kept = ap (λ (p : List ℕ). take used p) w ∙ written-take bytes used pool (omega arith);
      past = past-written bytes pool pool' used _ _ w e l m;
      holds = λ b. w;
    }

-- where there is no room the pool is as it was, and where there is the answer is not `Full`
pub untouched-full : (pool : List ℕ) {r : Grown} → Untouched pool pool r
untouched-full pool = record { left = λ e. refl }

pub untouched-to : (pool pool' : List ℕ) (n : ℕ) → Untouched pool pool' (Some n)
untouched-to pool pool' n = record { left = λ e. let z : ◌≡◌ {A = ℕ} 0 1 = cc in absurd (omega arith) }

-- the bytes by another name
pub adds_same : {bytes bytes' pool pool' : List ℕ} {used limit : ℕ} {r : Grown} → bytes ≡ bytes' → Adds bytes used limit pool pool' r
    → Adds bytes' used limit pool pool' r
adds_same e a = rw e at a
