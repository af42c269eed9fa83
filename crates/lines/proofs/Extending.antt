-- One text after another: with room the two are written as one, and where the first has no room the longer text has none.
use Rattle.std.proofs.Common.{Some, None}
use Prim.Native.Nat.{ℕ, ◌+◌, ◌≤◌, ◌<◌}
use mathlib.Core.Path.{◌≡◌, refl, sym, ◌∙◌, ap, ap₂}
use mathlib.Core.List.{List, ◌++◌}
use native.Mathlib.Omega.{arith}
use lib.ListN.{length, take, drop, length-append}
use lib.Seq.{take-take}
use Rattle.frames.specs.Logic.{below, pick}
use Rattle.frames.proofs.Chains.{below-no, below_false}
use Rattle.packed.specs.Pool.{written, grown, Adds, Grown}
use Rattle.packed.proofs.Written.{written-append}
use Rattle.packed.proofs.Adding.{grown-full}
use Rattle.packed.proofs.Joining.{grown-of-to, grown-of-full}
use Rattle.lines.specs.Extends.{and_then, Extends}

-- the first has no room
pub extends-full : (text out : List ℕ) → Extends (and_then text) out None out None
extends-full text out = record { sized = refl; adds = λ bytes at before a. still bytes at before a }
  where
    still : (bytes : List ℕ) (at : ℕ) (before : List ℕ) → Adds bytes at (length before) before out None
        → Adds (bytes ++ text) at (length before) before out None
    still bytes at before a =
        let over = grown-of-full (length bytes) at (length before) a.answers in
        let size = length-append bytes text in
        let long : length before < at + length (bytes ++ text) = omega arith in
        record {
          answers = grown-full _ at (length before) long;
          sized = a.sized;
          kept = a.kept;
          past = a.past;
          holds = λ q. absurd (omega (arith, below_false _ _ q));
        }

-- the same end, the same answer
grown-sum : (s t u v : ℕ) {l m : ℕ} → l ≡ m → u + s ≡ v + t → grown s u l ≡ grown t v m
unfolding grown
grown-sum s t u v e f = ap₂ (λ (l k : ℕ). pick (below l k) None (Some k)) e f

module _ {text out out' : List ℕ} {n : ℕ} {answer : Grown} (then : Adds text n (length out) out out' answer) where
  -- two texts, the second where the first ends, are written as one
  one-text : (bytes : List ℕ) (at : ℕ) (before : List ℕ) → Adds bytes at (length before) before out (Some n) → n ≡ at + length bytes
      → at + length (bytes ++ text) ≤ length before → out' ≡ written (bytes ++ text) at before
  one-text bytes at before first is fits =
      let size = length-append bytes text in
      let same_size = first.sized in
      let there : out ≡ written bytes at before = first.holds (below-no (omega arith)) in
      let next : out' ≡ written text n out = then.holds (below-no (omega arith)) in
      next ∙ ap (λ (k : ℕ). written text k out) is ∙ ap (λ (p : List ℕ). written text (at + length bytes) p) there ∙ written-append bytes at before text (omega arith)

  -- the first ends at n, and the second is added there
  pub extends-to : Extends (and_then text) out (Some n) out' answer
  extends-to = record { sized = then.sized; adds = λ bytes at before first. both bytes at before first }
    where
      both : (bytes : List ℕ) (at : ℕ) (before : List ℕ) → Adds bytes at (length before) before out (Some n)
          → Adds (bytes ++ text) at (length before) before out' answer
      both bytes at before first =
          let said = grown-of-to (length bytes) at (length before) n first.answers in
          let size = length-append bytes text in
          let same_size = first.sized in
          let low : at ≤ n = omega arith in
          let kept : take at out' ≡ take at out = sym (take-take at n out' low) ∙ ap (λ (r : List ℕ). take at r) then.kept ∙ take-take at n out low in
          let past : drop (length before) out' ≡ drop (length before) out = rw same_size at then.past in
          record {
            answers = then.answers ∙ grown-sum _ _ n at same_size (omega arith);
            sized = then.sized ∙ same_size;
            kept = kept ∙ first.kept;
            past = past ∙ first.past;
            holds = λ q. one-text bytes at before first said.0 (below_false _ _ q);
          }

-- the text by another name
pub extends-same : {text text' out out' : List ℕ} {done answer : Grown} → text ≡ text' → Extends (and_then text) out done out' answer
    → Extends (and_then text') out done out' answer
extends-same e x = rw e at x
