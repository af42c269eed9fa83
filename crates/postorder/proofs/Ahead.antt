-- The walk over a file goes forward: what is read later lies further on, and what was read stays.
use Rattle.std.proofs.Common.{Some, None}
use Prim.Native.Nat.{ℕ, suc, ◌≤◌, ◌<◌}
use mathlib.Core.Path.{◌≡◌, refl, sym, ap, ◌∙◌}
use mathlib.Core.Bool.{Bool, true, false}
use mathlib.Core.List.{List, [], ◌∷◌, ◌++◌}
use native.Mathlib.Omega.{arith}
use lib.ListN.{length, get_or, length-append, get_or-append}
use lib.Seq.{get_or-append_seam}
use Rattle.frames.specs.Logic.{below, pick}
use Rattle.frames.specs.Layout.{kind_at, next_at, is_statement}
use Rattle.frames.specs.Verdict.{Index, Outcome, after, refusal, at_end, decided, fault_at, walk, Fault, Good}
use Rattle.frames.proofs.Chains.{at_most-no, below_true, below_false}
use Rattle.frames.proofs.Fine.{Faultless, fault-fine}
use Rattle.facts.proofs.Kept.{walk_is, refused-not-good}

-- the statements of the first index are the front of the second's, and the others lie at o or later
pub record Beyond (ix : Index) (o : ℕ) (later : Index) : Type 0 where
  pub longer : length ix.statements ≤ length later.statements
  pub kept : (n : ℕ) → n < length ix.statements → get_or later.statements n 0 ≡ get_or ix.statements n 0
  pub ahead : (n : ℕ) → length ix.statements ≤ n → n < length later.statements → o ≤ get_or later.statements n 0

record Reached (ix : Index) (o : ℕ) (later : Index) (at : ℕ) : Type 0 where
  beyond : Beyond ix o later
  forward : o ≤ at

-- one more statement, or none
grows : (t : Bool) (ix : Index) (o : ℕ) (later : Index) (at : ℕ) (new : Index) → new.statements ≡ pick t (later.statements ++ (at ∷ [])) later.statements
    → Reached ix o later at → Beyond ix o new
unfolding pick
grows false ix o later at new e b =
    let c = b.beyond in
    record {
      longer = rw e c.longer;
      kept = λ n l. rw e (c.kept n l);
      ahead = λ n l k. rw e (c.ahead n l (rw e at k));
    }
grows true ix o later at new e b =
    let c = b.beyond in
    let size = length-append later.statements (at ∷ []) in
    record {
      longer = let l = c.longer in rw e (omega arith);
      kept = λ n l.
          let m = c.longer in
          rw e (get_or-append later.statements (at ∷ []) 0 n (omega arith) ∙ c.kept n l);
      ahead = λ n l k. rw e (tried n l (rw e at k) (below n (length later.statements)) refl);
    }
  where
    tried : (n : ℕ) → length ix.statements ≤ n → n < length (later.statements ++ (at ∷ [])) → (t : Bool) → below n (length later.statements) ≡ t
        → o ≤ get_or (later.statements ++ (at ∷ [])) n 0
    tried n l k true e' =
        let m = below_true _ _ e' in
        rw (get_or-append later.statements (at ∷ []) 0 n m) (b.beyond.ahead n l m)
    tried n l k false e' =
        let same : n ≡ length later.statements = omega (arith, length-append later.statements (at ∷ []), below_false _ _ e') in
        rw (same, get_or-append_seam later.statements at [] 0) b.forward

module _ (f : List ℕ) where
  pub beyond-walk : (k : ℕ) (ix : Index) (o : ℕ) → Beyond ix o (walk k f ix o).index
  unfolding at_end refusal after next_at
  beyond-walk k ix o =
      walk_is f (Reached ix o) (λ r. Beyond ix o r.index) (λ later at i. i.beyond) (λ later at why l i. i.beyond)
      (λ later at l i fine.
      record {
        beyond = grows (is_statement (kind_at f at)) ix o later at (after f later at) refl i;
        forward = let m = i.forward in omega arith;
      })
      k ix o
      (record {
        beyond = record { longer = omega arith; kept = λ n l. refl; ahead = λ n l m. absurd (omega arith) };
        forward = omega arith;
      })

  -- a step of a walk that ends well
  pub walk_steps : (k : ℕ) (ix : Index) (o : ℕ) (w : Outcome) (a b : ℕ) → walk (suc k) f ix o ≡ w → w.verdict ≡ Good a b → o < length f
      → Faultless f ix.symbols ix.statements ix.owed o × (walk k f (after f ix o) (next_at f o) ≡ w)
  unfolding walk pick decided refusal
  walk_steps k ix o w a b e good l =
      tried (fault_at f ix.symbols ix.statements ix.owed o) refl (rw (at_most-no l) at e)
    where
      tried : (v : Fault) → fault_at f ix.symbols ix.statements ix.owed o ≡ v
          → decided (fault_at f ix.symbols ix.statements ix.owed o) o ix (walk k f (after f ix o) (next_at f o)) ≡ w
          → Faultless f ix.symbols ix.statements ix.owed o × (walk k f (after f ix o) (next_at f o) ≡ w)
      tried None c d = (fault-fine f ix.symbols ix.statements ix.owed o c, rw c at d)
      tried (Some why) c d = absurd (refused-not-good (sym (ap (λ (r : Outcome). r.verdict) (rw c at d))) good)
