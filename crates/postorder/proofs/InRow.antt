-- The records of the statements of a good file lie one after another, in the order of their numbers.
use Prim.Native.Nat.{ℕ, ◌≤◌, ◌<◌}
use mathlib.Core.Path.{◌≡◌, refl}
use mathlib.Core.Bool.{Bool, true, false}
use mathlib.Core.List.{List, [], ◌∷◌, ◌++◌}
use native.Mathlib.Omega.{arith}
use lib.ListN.{length, get_or, length-append, get_or-append}
use lib.Seq.{get_or-append_seam}
use Rattle.frames.specs.Logic.{below, pick}
use Rattle.frames.specs.Layout.{kind_at, next_at, is_statement}
use Rattle.frames.specs.Verdict.{Index, nothing, after, index}
use Rattle.frames.specs.Database.{GoodFile}
use Rattle.frames.proofs.Chains.{below_true, below_false}
use Rattle.facts.proofs.Kept.{good-keeps}
use Rattle.postorder.proofs.Moves.{next-later}

-- records of statements lie one after another
record InRow (f : List ℕ) (ix : Index) (o : ℕ) : Type 0 where
  passed : (n : ℕ) → n < length ix.statements → next_at f (get_or ix.statements n 0) ≤ o
  apart : (n m : ℕ) → n < m → m < length ix.statements → next_at f (get_or ix.statements n 0) ≤ get_or ix.statements m 0

row-grows : (f : List ℕ) (t : Bool) (ix new : Index) (o : ℕ) → new.statements ≡ pick t (ix.statements ++ (o ∷ [])) ix.statements → InRow f ix o
    → InRow f new (next_at f o)
unfolding pick
row-grows f false ix new o e i =
    record {
      passed = λ n l. let k = i.passed n (rw e at l) in rw e (later n k);
      apart = λ n m l k. rw e (i.apart n m l (rw e at k));
    }
  where
    later : (n : ℕ) → next_at f (get_or ix.statements n 0) ≤ o → next_at f (get_or ix.statements n 0) ≤ next_at f o
    later n k = omega (arith, next-later f o)
row-grows f true ix new o e i =
    record {
      passed = λ n l. rw e (passed n (rw e at l) (below n (length ix.statements)) refl);
      apart = λ n m l k. rw e (apart n m l (rw e at k) (below m (length ix.statements)) refl);
    }
  where
    old : (n : ℕ) → n < length ix.statements → get_or (ix.statements ++ (o ∷ [])) n 0 ≡ get_or ix.statements n 0
    old n l = get_or-append ix.statements (o ∷ []) 0 n l

    last : (n : ℕ) → n < length (ix.statements ++ (o ∷ [])) → below n (length ix.statements) ≡ false → n ≡ length ix.statements
    last n l c = omega (arith, length-append ix.statements (o ∷ []), below_false _ _ c)

    passed : (n : ℕ) → n < length (ix.statements ++ (o ∷ [])) → (t : Bool) → below n (length ix.statements) ≡ t
        → next_at f (get_or (ix.statements ++ (o ∷ [])) n 0) ≤ next_at f o
    passed n l true c = rw (old n (below_true _ _ c)) (omega (arith, i.passed n (below_true _ _ c), next-later f o))
    passed n l false c = rw (last n l c, get_or-append_seam ix.statements o [] 0) (omega arith)

    apart : (n m : ℕ) → n < m → m < length (ix.statements ++ (o ∷ [])) → (t : Bool) → below m (length ix.statements) ≡ t
        → next_at f (get_or (ix.statements ++ (o ∷ [])) n 0) ≤ get_or (ix.statements ++ (o ∷ [])) m 0
    apart n m l k true c =
        let h = below_true _ _ c in
        rw (old n (omega arith), old m h) (i.apart n m l h)
    apart n m l k false c =
        let h = last m k c in
        rw (old n (omega arith), h, get_or-append_seam ix.statements o [] 0) (i.passed n (omega arith))

pub in_row : (f : List ℕ) → GoodFile f → (n m : ℕ) → n < m → m < length (index f).statements
    → next_at f (get_or (index f).statements n 0) ≤ get_or (index f).statements m 0
unfolding nothing after
in_row f good =
    let h = good-keeps f (InRow f) (record { passed = λ n l. absurd (omega arith); apart = λ n m l k. absurd (omega arith) })
    (λ ix o l i fine. row-grows f (is_statement (kind_at f o)) ix (after f ix o) o refl i) good in
    h.1.apart
