-- Variables numbered one after another, as a loop over the pairs of a statement does.
use Prim.Native.Nat.{ℕ, suc, ◌+◌, ◌*◌, ◌≤◌, ◌<◌}
use mathlib.Core.Path.{◌≡◌, refl, sym, ◌∙◌, ap}
use mathlib.Core.List.Memᴰ
use mathlib.Core.List.{List, [], ◌∷◌, ◌++◌, append_assoc}
use native.Mathlib.Omega.{arith}
use lib.ListN.{length, get_or, take, length-append}
use lib.Seq.{take-suc, take_all}
use Rattle.machine.specs.Prepare.{numbered}
use Rattle.machine.specs.Run.{all_numbered, members}
use Rattle.variables.specs.Numbering.{Maps, MapsAll}

numbered-after : (vs xs : List ℕ) (v : ℕ) → all_numbered vs (xs ++ (v ∷ [])) ≡ numbered (all_numbered vs xs) v
unfolding all_numbered
numbered-after vs [] v = refl
numbered-after vs (x ∷ xs) v = numbered-after (numbered vs x) xs v

pub all_none : (table : List ℕ) (count : ℕ) → MapsAll table count [] table count
unfolding all_numbered
all_none table count = record { sized = refl; few = omega arith; maps = λ vs h n. n }

pub all_more : {table xs table' table'' : List ℕ} {count count' v count'' : ℕ} → MapsAll table count xs table' count' → Maps table' count' v table'' count''
    → MapsAll table count (xs ++ (v ∷ [])) table'' count''
all_more {table} {xs} {table'} {table''} {count} {count'} {v} all one =
    let a = all.few in
    let b = one.few in
    record {
      sized = one.sized ∙ all.sized;
      few = omega (arith, length-append xs (v ∷ []));
      maps = λ vs h n.
          rw (numbered-after vs xs v)
          (one.maps (all_numbered vs xs)
          (let l = h v (Memᴰ.append_right xs (Memᴰ.head refl)) in let s = all.sized in omega arith)
          (all.maps vs (λ w m. h w (Memᴰ.append_left (v ∷ []) m)) n));
    }

members-append : (qs rs : List (ℕ × ℕ)) → members (qs ++ rs) ≡ members qs ++ members rs
unfolding members
members-append [] rs = refl
members-append (q ∷ qs) rs = ap (λ (r : List ℕ). q.0 ∷ q.1 ∷ r) (members-append qs rs)

-- the members of the pairs before the i-th, and of that one
pub members-more : (qs : List (ℕ × ℕ)) (i : ℕ) (l r : ℕ) → i < length qs → (l, r) ≡ get_or qs i (0, 0)
    → members (take (i + 1) qs) ≡ (members (take i qs) ++ (l ∷ [])) ++ (r ∷ [])
unfolding members
members-more qs i l r h e =
    let next : i + 1 ≡ suc i = omega arith in
    ap members (ap (λ (k : ℕ). take k qs) next ∙ take-suc qs i (0, 0) h ∙ ap (λ (q : ℕ × ℕ). take i qs ++ (q ∷ [])) (sym e))
    ∙ members-append (take i qs) ((l, r) ∷ [])
    ∙ sym (append_assoc (members (take i qs)) (l ∷ []) (r ∷ []))

pub members-all : (qs : List (ℕ × ℕ)) (i : ℕ) → length qs ≤ i → members (take i qs) ≡ members qs
members-all qs i h = ap members (take_all i qs h)

pub members-length : (qs : List (ℕ × ℕ)) → length (members qs) ≡ 2 * length qs
unfolding members
members-length [] = refl
members-length (q ∷ qs) = let e = members-length qs in omega arith
