-- Numbering one more variable: it gets the next number, and the others keep theirs.
use Prim.Native.Nat.{ℕ, suc, ◌+◌, ◌≤◌, ◌<◌}
use mathlib.Core.Path.{◌≡◌, refl, sym, ◌∙◌, ap}
use mathlib.Core.Bool.{Bool, true, false}
use mathlib.Core.Logic.{◌⊎◌, inl, inr}
use mathlib.Core.List.{List, [], ◌∷◌, ◌++◌}
use native.Mathlib.Omega.{arith}
use lib.ListN.{length, get_or, set, length-append, length-set}
use lib.Seq.{get_or-set_same, get_or-set_other}
use Rattle.frames.specs.Logic.{equal, pick, either, any}
use Rattle.frames.proofs.Chains.{pick_first, pick_second, equal-yes, equal-no, equal-true, equal-false}
use Rattle.frames.proofs.Tells.{true-not-false, either-false}
use Rattle.machine.specs.Ground.{among}
use Rattle.machine.specs.Prepare.{numbered}
use Rattle.packed.specs.Images.{number_in}
use Rattle.variables.specs.Numbering.{tag, Numbered, Maps}

not-true : (t : Bool) → (t ≡ true → ⊥) → t ≡ false
not-true false n = refl
not-true true n = absurd (n refl)

-- a tag is 0 exactly where the variable has no number
tag-zero : (vs : List ℕ) (v : ℕ) → tag vs v ≡ 0 → among vs v ≡ false
unfolding tag pick
tag-zero vs v e = tried (among vs v) refl e
  where
    tried : (t : Bool) → among vs v ≡ t → pick t (number_in vs v + 1) 0 ≡ 0 → among vs v ≡ false
    tried false a q = a
    tried true a q = absurd (omega arith)

tag-some : (vs : List ℕ) (v : ℕ) → (tag vs v ≡ 0 → ⊥) → among vs v ≡ true
unfolding tag pick
tag-some vs v n = tried (among vs v) refl n
  where
    tried : (t : Bool) → among vs v ≡ t → (pick t (number_in vs v + 1) 0 ≡ 0 → ⊥) → among vs v ≡ true
    tried true a q = a
    tried false a q = absurd (q refl)

-- a test on the first of a list, and the rest
first : (t : Bool) {c : Bool} → (t ≡ true) ⊎ (c ≡ true) → either t c ≡ true
unfolding either
first true e = refl
first false (inl e) = absurd (true-not-false e refl)
first false (inr e) = e

same_rest : (t : Bool) {b c : Bool} → b ≡ c → either t b ≡ either t c
unfolding either
same_rest true e = refl
same_rest false e = e

turn : (a b : ℕ) → equal a b ≡ equal b a
turn a b = tried (equal b a) refl
  where
    tried : (t : Bool) → equal b a ≡ t → equal a b ≡ t
    tried true e = equal-yes (sym (equal-true b a e))
    tried false e = equal-no (λ n. equal-false b a e (sym n))

-- one more at the end: the new one is there, with the next number; the others are as they were
among-last : (vs : List ℕ) (v : ℕ) → among (vs ++ (v ∷ [])) v ≡ true
unfolding among any
among-last [] v = first (equal v v) (inl (equal-yes refl))
among-last (u ∷ vs) v = first (equal v u) (inr (among-last vs v))

among-other : (vs : List ℕ) (v w : ℕ) → (w ≡ v → ⊥) → among (vs ++ (v ∷ [])) w ≡ among vs w
unfolding among any either
among-other [] v w n = rw (equal-no n)
among-other (u ∷ vs) v w n = same_rest (equal w u) (among-other vs v w n)

number-last : (vs : List ℕ) (v : ℕ) → among vs v ≡ false → number_in (vs ++ (v ∷ [])) v ≡ length vs
unfolding number_in among any pick
number-last [] v a = let same : equal v v ≡ true = equal-yes refl in rw same
number-last (u ∷ vs) v a =
    let parts = either-false _ _ a in
    let other : equal u v ≡ false = turn u v ∙ parts.0 in
    rw other (ap suc (number-last vs v parts.1))

number-other : (vs : List ℕ) (v w : ℕ) → among vs w ≡ true → number_in (vs ++ (v ∷ [])) w ≡ number_in vs w
unfolding number_in among any either pick
number-other [] v w a = absurd (true-not-false a refl)
number-other (u ∷ vs) v w a = tried (number-other vs v w) (equal u w) refl
  where
    tried : (among vs w ≡ true → number_in (vs ++ (v ∷ [])) w ≡ number_in vs w) → (t : Bool) → equal u w ≡ t
        → pick t 0 (suc (number_in (vs ++ (v ∷ [])) w)) ≡ pick t 0 (suc (number_in vs w))
    tried later true e = refl
    tried later false e = ap suc (later (rw (turn w u, e) at a))

-- the tags with one more at the end
tag-new : (vs : List ℕ) (v : ℕ) → among vs v ≡ false → tag (vs ++ (v ∷ [])) v ≡ length vs + 1
unfolding tag pick
tag-new vs v a = rw (among-last vs v) (ap (λ (n : ℕ). n + 1) (number-last vs v a))

tag-old : (vs : List ℕ) (v w : ℕ) → (w ≡ v → ⊥) → tag (vs ++ (v ∷ [])) w ≡ tag vs w
unfolding tag pick
tag-old vs v w n = rw (among-other vs v w n) (tried (among vs w) refl)
  where
    tried : (t : Bool) → among vs w ≡ t → pick t (number_in (vs ++ (v ∷ [])) w + 1) 0 ≡ pick t (number_in vs w + 1) 0
    tried true a = ap (λ (k : ℕ). k + 1) (number-other vs v w a)
    tried false a = refl

numbered-known : (vs : List ℕ) (v : ℕ) → among vs v ≡ true → numbered vs v ≡ vs
unfolding numbered
numbered-known vs v a = sym (pick_first _ a refl)

numbered-new : (vs : List ℕ) (v : ℕ) → among vs v ≡ false → numbered vs v ≡ vs ++ (v ∷ [])
unfolding numbered
numbered-new vs v a = sym (pick_second _ a refl)

-- past the table's end nothing is said
pub maps-past : (table : List ℕ) (count v : ℕ) → length table ≤ v → Maps table count v table count
maps-past table count v l = record { sized = refl; few = omega arith; maps = λ vs h n. absurd (omega arith) }

-- the variable has its number
pub maps-known : (table : List ℕ) (count v : ℕ) → (get_or table v 0 ≡ 0 → ⊥) → Maps table count v table count
maps-known table count v some =
    record {
      sized = refl;
      few = omega arith;
      maps = λ vs h n. rw (numbered-known vs v (tag-some vs v (λ e. some (n.tags v h ∙ e)))) n;
    }

-- it gets the next number
pub maps-new : (table : List ℕ) (count v : ℕ) → v < length table → get_or table v 0 ≡ 0 → Maps table count v (set table v (count + 1)) (count + 1)
maps-new table count v inside none =
    record {
      sized = length-set table v (count + 1);
      few = omega arith;
      maps = λ vs h n. rw (numbered-new vs v (tag-zero vs v (sym (n.tags v h) ∙ none))) (one_more vs n);
    }
  where
    one_more : (vs : List ℕ) → Numbered table count vs → Numbered (set table v (count + 1)) (count + 1) (vs ++ (v ∷ []))
    one_more vs n =
        let c = n.counts in
        let a = tag-zero vs v (sym (n.tags v inside) ∙ none) in
        record {
          counts = omega (arith, length-append vs (v ∷ []));
          tags = λ w l. tried vs n c a w (omega (arith, length-set table v (count + 1))) (equal w v) refl;
        }
      where
        tried : (us : List ℕ) → Numbered table count us → count ≡ length us → among us v ≡ false → (w : ℕ) → w < length table
            → (t : Bool) → equal w v ≡ t → get_or (set table v (count + 1)) w 0 ≡ tag (us ++ (v ∷ [])) w
        tried us m c a w l true e =
            let same : w ≡ v = equal-true w v e in
            rw same (get_or-set_same table v (count + 1) 0 inside ∙ (ap (λ (k : ℕ). k + 1) c ∙ sym (tag-new us v a)))
        tried us m c a w l false e =
            let other = equal-false w v e in
            get_or-set_other table v w (count + 1) 0 other ∙ (m.tags w l ∙ sym (tag-old us v w other))
