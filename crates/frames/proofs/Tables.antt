-- Laws of a table whose front is a list of offsets: one more offset is laid behind the front, or the table stays.
use Prim.Native.Nat.{ℕ, suc, ◌+◌, ◌≤◌, ◌<◌}
use mathlib.Core.Path.{◌≡◌, refl, sym, ◌∙◌}
use mathlib.Core.Bool.{Bool, true, false}
use mathlib.Core.List.{List, [], ◌∷◌, ◌++◌, append_assoc}
use native.Mathlib.Numerals.{add-one}
use native.Mathlib.Omega.{arith}
use lib.ListN.{length, take, drop, set, length-append, length-drop}
use lib.Seq.{drop-cons, set-append_seam, take-append_seam}
use Rattle.frames.specs.Logic.{pick}
use Rattle.frames.specs.Verdict.{laid}

-- the front is what was laid
pub laid-front : (xs t : List ℕ) → take (length xs) (laid xs t) ≡ xs
unfolding laid
laid-front xs t = take-append_seam xs (drop (length xs) t)

-- a table keeps its length
pub laid-length : (xs t : List ℕ) → length xs ≤ length t → length (laid xs t) ≡ length t
unfolding laid
laid-length xs t h = omega (arith, length-append xs (drop (length xs) t), length-drop (length xs) t)

-- one more offset is laid behind the front
pub laid_more : (xs t : List ℕ) (o : ℕ) → length xs < length t → set (laid xs t) (length xs) o ≡ laid (xs ++ (o ∷ [])) t
unfolding laid
laid_more xs t o h =
    let e : length (xs ++ (o ∷ [])) ≡ suc (length xs) = length-append xs (o ∷ []) ∙ add-one (length xs) in
    rw (drop-cons t (length xs) 0, set-append_seam, e, append_assoc) refl

-- the same where the record may be of another kind
pub laid-pick : (b : Bool) (xs t : List ℕ) (o : ℕ) → (b ≡ true → length xs < length t)
    → pick b (set (laid xs t) (length xs) o) (laid xs t) ≡ laid (pick b (xs ++ (o ∷ [])) xs) t
unfolding pick
laid-pick true xs t o h = laid_more xs t o (h refl)
laid-pick false xs t o h = refl

pub count-pick : (b : Bool) (xs : List ℕ) (o : ℕ) → pick b (length xs + 1) (length xs) ≡ length (pick b (xs ++ (o ∷ [])) xs)
unfolding pick
count-pick true xs o = sym (length-append xs (o ∷ []))
count-pick false xs o = refl

pub few-pick : (b : Bool) (xs : List ℕ) (o : ℕ) → (b ≡ true → length xs < 4096) → length xs ≤ 4096
    → length (pick b (xs ++ (o ∷ [])) xs) ≤ 4096
unfolding pick
few-pick true xs o h k = let l : length xs < 4096 = h refl in omega (arith, length-append xs (o ∷ []))
few-pick false xs o h k = k
