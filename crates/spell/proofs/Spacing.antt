-- Texts in which a space stands before each label, and what stands in an output into which such a text is put. (A space is thought before the output, at its byte 0.)
use Prim.Native.Nat.{ℕ, zero, suc, ◌+◌, ◌-◌, ◌≤◌, ◌<◌}
use mathlib.Core.Path.{◌≡◌, refl, ◌∙◌, ap}
use mathlib.Core.List.{List, [], ◌∷◌, ◌++◌, append_assoc, append-nil}
use native.Mathlib.Nat.{suc-add, add-zero}
use native.Mathlib.Numerals.{add-one}
use native.Mathlib.Omega.{arith}
use lib.ListN.{length, get_or, take, drop, set, get_or-append}
use lib.Seq.{length-take-le, drop_at, get_or-append-add}
use Rattle.frames.specs.Database.{Database}
use Rattle.frames.proofs.Chains.{below-yes, below-no, pick_first, pick_second}
use Rattle.machine.specs.Apply.{label_of}
use Rattle.postorder.specs.LongForm.{following, joined}
use Rattle.packed.specs.Pool.{written}
use Rattle.packed.proofs.Written.{written_none, written-more, written-append}
use Rattle.spell.specs.Text.{Puts}

module _ (db : Database) where
  -- the text of two lists, one after the other
  pub following-append : (xs ys : List ℕ) → following db (xs ++ ys) ≡ following db xs ++ following db ys
  unfolding following
  following-append [] ys = refl
  following-append (x ∷ xs) ys = rw (following-append xs ys) (simp append_assoc)

  -- the last label
  pub following-last : (xs : List ℕ) (s : ℕ) → following db (xs ++ (s ∷ [])) ≡ following db xs ++ (32 ∷ label_of db s)
  unfolding following
  following-last xs s = following-append xs (s ∷ []) ∙ ap (λ (t : List ℕ). following db xs ++ (32 ∷ t)) (append-nil (label_of db s))

  -- labels joined, with the space before the first of them
  pub following-joined : (xs : List ℕ) (s : ℕ) → following db (xs ++ (s ∷ [])) ≡ 32 ∷ joined db (xs ++ (s ∷ []))
  unfolding following joined
  following-joined [] s = refl
  following-joined (x ∷ xs) s = refl

-- a buffer with one byte more in front
written_behind : (b : ℕ) (xs : List ℕ) (at : ℕ) (out : List ℕ) → b ∷ written xs at out ≡ written xs (suc at) (b ∷ out)
unfolding written
written_behind b xs at out = rw suc-add refl

-- one byte is put
written_one : (b at : ℕ) (out : List ℕ) → at < length out → set out at b ≡ written (b ∷ []) at out
written_one b at out l = rw (written_none, add-zero) at (written-more [] at out b (omega arith))

-- from where it is written on
pub drop-written : (xs : List ℕ) (at : ℕ) (out : List ℕ) → at ≤ length out → drop at (written xs at out) ≡ xs ++ drop (at + length xs) out
unfolding written
drop-written xs at out l = drop_at (take at out) _ at (length-take-le at out l)

-- each word that is written
pub written_at : (xs : List ℕ) (at : ℕ) (out : List ℕ) (i : ℕ) → at ≤ length out → i < length xs → get_or (written xs at out) (at + i) 0 ≡ get_or xs i 0
unfolding written
written_at xs at out i l h =
    let size = length-take-le at out l in
    (rw size at (get_or-append-add (take at out) (xs ++ drop (at + length xs) out) i 0)) ∙ get_or-append xs _ 0 i h

-- a space, and the label behind it
pub spaced : (label : List ℕ) (at : ℕ) (out middle : List ℕ) → at + length label ≤ length out → 32 ∷ middle ≡ set (32 ∷ out) at 32
    → 32 ∷ written label at middle ≡ written (32 ∷ label) at (32 ∷ out)
spaced label at out middle l e =
    let next : at + 1 ≡ suc at = add-one at in
    written_behind 32 label at middle
    ∙ ap (λ (o : List ℕ). written label (suc at) o) (e ∙ written_one 32 at (32 ∷ out) (omega arith))
    ∙ (rw next at (written-append (32 ∷ []) at (32 ∷ out) label (omega arith)))

-- the byte before `at` is that at `at` of a space and the output
pub space-put : (out : List ℕ) (at : ℕ) → 0 < at → 32 ∷ set out (at - 1) 32 ≡ set (32 ∷ out) at 32
space-put out zero l = absurd (omega arith)
space-put out (suc k) l =
    let e : suc k - 1 ≡ k = omega arith in
    rw e refl

pub space-there : (out : List ℕ) (at : ℕ) → at ≤ 0 → 32 ∷ out ≡ set (32 ∷ out) at 32
space-there out at l =
    let e : at ≡ 0 = omega arith in
    rw e refl

-- a label that is too long is not put
pub puts_none : (label : List ℕ) (end : ℕ) (out : List ℕ) → end ≤ length label → Puts label end out out 0
puts_none label end out l = record { begins = omega arith; stands = pick_second _ (below-no l) refl }

-- a space and a label are put
pub puts-label : (label : List ℕ) (end at : ℕ) (out middle : List ℕ) → at ≡ end - length label - 1 → length label < end → end ≤ length out + 1
    → 32 ∷ middle ≡ set (32 ∷ out) at 32 → Puts label end out (written label at middle) at
puts-label label end at out middle is l fits e =
    record { begins = omega arith; stands = pick_first _ (below-yes l) (spaced label at out middle (omega arith) e) }
