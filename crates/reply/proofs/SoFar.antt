-- The lines so far: which $p have theirs in the buffer.
use Prim.Native.Nat.{ℕ, zero, suc, ◌+◌, ◌≤◌, ◌<◌}
use mathlib.Core.Path.{◌≡◌, refl, sym, ◌∙◌, ap}
use mathlib.Core.Bool.{true, false}
use mathlib.Core.List.{List, [], ◌∷◌, ◌++◌, append-nil, append_assoc}
use native.Mathlib.Omega.{arith}
use lib.ListN.{length, get_or, length-append}
use Rattle.bitset.specs.Sets.{keep}
use Rattle.frames.specs.Logic.{equal}
use Rattle.frames.specs.Database.{database}
use Rattle.frames.specs.Facts.{statement_of}
use Rattle.packed.specs.Pool.{Adds, joined, Grown}
use Rattle.packed.proofs.Adding.{adds_same}
use Rattle.packed.proofs.Joining.{joined-append}
use Rattle.lines.specs.Lines.{checked_line}
use Rattle.lines.specs.Extends.{and_then, Extends}
use Rattle.lines.proofs.Extending.{extends-same}
use Rattle.walk.specs.Walk.{provable_from, provable, answer_word}
use Rattle.reply.specs.Output.{greatest, proof_line, proof_lines, checked_text}
use Rattle.reply.specs.Replies.{Held}

-- statements below i are passed, and `taken` of them are $p, whose lines are in the buffer
pub record SoFar (f out : List ℕ) (first : Grown) (out' : List ℕ) (done : Grown) (i taken : ℕ) : Type 0 where
  pub passed : List ℕ
  pub left : ℕ
  pub whole : provable (database f) ≡ passed ++ provable_from (database f) left i
  pub all : left + i ≡ length (database f).statements
  pub counted : taken ≡ length passed
  pub adds : Extends (and_then (joined (proof_line f) passed)) out first out' done

get_or-middle : (xs : List ℕ) (y : ℕ) (ys : List ℕ) → get_or (xs ++ (y ∷ ys)) (length xs) 0 ≡ y
get_or-middle [] y ys = refl
get_or-middle (x ∷ xs) y ys = get_or-middle xs y ys

-- no statement is passed
pub so-far-none : (f out : List ℕ) (first : Grown) → SoFar f out first out first 0 0
unfolding provable joined
so-far-none f out first =
    record {
      passed = [];
      left = length (database f).statements;
      whole = refl;
      all = omega arith;
      counted = refl;
      adds = record { sized = refl; adds = λ bytes at before a. adds_same (sym (append-nil bytes)) a };
    }

-- one text after another
extends-both : {text more out out' out'' : List ℕ} {first done done' : Grown} → Extends (and_then text) out first out' done
    → Extends (and_then more) out' done out'' done' → Extends (and_then (text ++ more)) out first out'' done'
extends-both {text} {more} x y =
    record {
      sized = y.sized ∙ x.sized;
      adds = λ bytes at before a. adds_same (append_assoc bytes text more) (y.adds _ _ _ (x.adds bytes at before a));
    }

module _ {f out out' : List ℕ} {first done : Grown} {i taken : ℕ} (s : SoFar f out first out' done i taken) where
  -- a statement that is no $p
  passes : (l : ℕ) → s.left ≡ suc l → equal (statement_of (database f) i).kind 5 ≡ false → SoFar f out first out' done (i + 1) taken
  unfolding provable_from keep
  passes l more other =
      let a = s.all in
      record {
        passed = s.passed;
        left = l;
        whole = s.whole ∙ rw (more, other) refl;
        all = omega arith;
        counted = s.counted;
        adds = s.adds;
      }

  -- a $p stands next
  stands : (l : ℕ) → s.left ≡ suc l → equal (statement_of (database f) i).kind 5 ≡ true
      → provable (database f) ≡ s.passed ++ (i ∷ provable_from (database f) l (i + 1))
  unfolding provable_from keep
  stands l more five = s.whole ∙ rw (more, five) refl

  -- a $p whose line is added
  adds_one : {out'' : List ℕ} {done' : Grown} (l : ℕ) → s.left ≡ suc l → equal (statement_of (database f) i).kind 5 ≡ true
      → Extends (and_then (proof_line f i)) out' done out'' done' → SoFar f out first out'' done' (i + 1) (taken + 1)
  unfolding joined
  adds_one l more five ext =
      let a = s.all in
      let c = s.counted in
      let n = length-append s.passed (i ∷ []) in
      let longer : joined (proof_line f) s.passed ++ proof_line f i ≡ joined (proof_line f) (s.passed ++ (i ∷ [])) =
      sym (joined-append (proof_line f) s.passed (i ∷ []) ∙ ap (λ (t : List ℕ). joined (proof_line f) s.passed ++ t) (append-nil (proof_line f i))) in
      record {
        passed = s.passed ++ (i ∷ []);
        left = l;
        whole = stands l more five ∙ sym (append_assoc s.passed (i ∷ []) (provable_from (database f) l (i + 1)));
        all = omega arith;
        counted = omega arith;
        adds = extends-same longer (extends-both s.adds ext);
      }

  module _ (inside : i < length (database f).statements) where
    pub so-far-other : equal (statement_of (database f) i).kind 5 ≡ false → SoFar f out first out' done (i + 1) taken
    so-far-other other = by s.left refl
      where
        by : (n : ℕ) → s.left ≡ n → SoFar f out first out' done (i + 1) taken
        by zero e = let a = s.all in absurd (omega arith)
        by (suc l) e = passes l e other

    pub so_far_more : {out'' : List ℕ} {done' : Grown} → equal (statement_of (database f) i).kind 5 ≡ true
        → Extends (and_then (proof_line f i)) out' done out'' done' → SoFar f out first out'' done' (i + 1) (taken + 1)
    so_far_more {out''} {done'} five ext = by s.left refl
      where
        by : (n : ℕ) → s.left ≡ n → SoFar f out first out'' done' (i + 1) (taken + 1)
        by zero e = let a = s.all in absurd (omega arith)
        by (suc l) e = adds_one l e five ext

    -- the next answer is that of statement i
    pub so-far-next : equal (statement_of (database f) i).kind 5 ≡ true
        → (taken < length (provable (database f))) × (get_or (provable (database f)) taken 0 ≡ i)
    so-far-next five = by s.left refl
      where
        by : (n : ℕ) → s.left ≡ n → (taken < length (provable (database f))) × (get_or (provable (database f)) taken 0 ≡ i)
        by zero e = let a = s.all in absurd (omega arith)
        by (suc l) e =
            let is = stands l e five in
            let c = s.counted in
            let m = ap length is in
            let n = length-append s.passed (i ∷ provable_from (database f) l (i + 1)) in (
              omega arith,
              rw (is, c) (get_or-middle s.passed i (provable_from (database f) l (i + 1))),
            )

  -- all statements are passed
  pub so-far-done : length (database f).statements ≤ i → Extends (and_then (proof_lines f)) out first out' done
  unfolding provable_from proof_lines
  so-far-done past =
      let a = s.all in
      let none : s.left ≡ 0 = omega arith in
      let is : provable (database f) ≡ s.passed = s.whole ∙ rw none (append-nil s.passed) in
      extends-same (ap (joined (proof_line f)) (sym is)) s.adds

-- the first line, and then those of the $p
pub lines-whole : (f : List ℕ) {out out' out'' : List ℕ} {first done : Grown} {n : ℕ} → n ≡ length (provable (database f))
    → Adds (checked_line n) 0 (length out) out out' first → Extends (and_then (proof_lines f)) out' first out'' done
    → Adds (checked_text f) 0 (length out) out out'' done
unfolding checked_text
lines-whole f is a x = adds_same (ap (λ (n : ℕ). checked_line n ++ proof_lines f) is) (x.adds _ _ _ a)

-- the word of the next answer
pub next_word : {f words : List ℕ} {i taken : ℕ} → Held f words → (taken < length (provable (database f))) × (get_or (provable (database f)) taken 0 ≡ i)
    → get_or words taken 0 ≡ answer_word f greatest i
next_word {f} h n = h.each _ n.0 ∙ ap (answer_word f greatest) n.1
