-- What the walk has judged. The invariant: each symbol and each statement of the index was found faultless, with the symbols
-- and the statements before it as the index then was, which are the front of the index as it is now; and each $p is followed
-- by its proof, or is the last record read. A good file's index has such a history, and no proof is owed at its end.
use Prim.Native.Nat.{ℕ, ◌≤◌, ◌<◌}
use mathlib.Core.Path.{◌≡◌, refl, ap, ◌∙◌}
use mathlib.Core.Bool.{Bool, true, false}
use mathlib.Core.Logic.{◌⊎◌, inl, inr}
use mathlib.Core.List.{List, [], ◌∷◌, ◌++◌}
use native.Mathlib.Omega.{arith}
use native.Mathlib.Decide.{dec_lt}
use lib.ListN.{length, take, get_or, length-append, length-take, get_or-append}
use lib.Seq.{take-append-le, take-length, get_or-append_seam}
use Rattle.frames.specs.Logic.{equal, pick}
use Rattle.frames.specs.Layout.{kind_at, next_at, is_statement, rest_size, symbols_at}
use Rattle.frames.specs.Table.{defined}
use Rattle.frames.specs.Verdict.{nothing, after, index}
use Rattle.frames.specs.Database.{GoodFile}
use Rattle.frames.specs.Facts.{◌∈◌}
use Rattle.frames.proofs.Chains.{below_true, equal-yes, equal-true}
use Rattle.frames.proofs.Tells.{all-member}
use Rattle.frames.proofs.Fine.{Faultless, record-well-formed, limits-kept}
use Rattle.facts.proofs.Rows.{reference-good, proof-good}
use Rattle.facts.proofs.Kept.{good-keeps}

-- the list with `o` at its end where the test holds
abbrev pub grown : Bool → List ℕ → ℕ → List ℕ
grown t xs o = pick t (xs ++ (o ∷ [])) xs

take-grown : (t : Bool) (xs : List ℕ) (o n : ℕ) → n ≤ length xs → take n (grown t xs o) ≡ take n xs
unfolding pick
take-grown true xs o n h = take-append-le n xs (o ∷ []) h
take-grown false xs o n h = refl

get_or-grown : (t : Bool) (xs : List ℕ) (o i : ℕ) → i < length xs → get_or (grown t xs o) i 0 ≡ get_or xs i 0
unfolding pick
get_or-grown true xs o i h = get_or-append xs (o ∷ []) 0 i h
get_or-grown false xs o i h = refl

length-grown : (t : Bool) (xs : List ℕ) (o : ℕ) → length xs ≤ length (grown t xs o)
unfolding pick
length-grown true xs o = omega (arith, length-append xs (o ∷ []))
length-grown false xs o = omega arith

-- the old list is the front of the new one
take-old : (t : Bool) (xs : List ℕ) (o : ℕ) → take (length xs) (grown t xs o) ≡ xs
take-old t xs o = take-grown t xs o (length xs) (omega arith) ∙ take-length xs

-- a member of the new list is a member of the old one, or the last
get_or-last : (t : Bool) (xs : List ℕ) (o : ℕ) → t ≡ true → get_or (grown t xs o) (length xs) 0 ≡ o
unfolding pick
get_or-last t xs o e = rw e (get_or-append_seam xs o [] 0)

grown-cases : (t : Bool) (xs : List ℕ) (o i : ℕ) → i < length (grown t xs o) → (i < length xs) ⊎ ((t ≡ true) × (i ≡ length xs))
unfolding pick
grown-cases true xs o i h = here (dec_lt i (length xs))
  where
    here : Dec (i < length xs) → (i < length xs) ⊎ ((true ≡ true) × (i ≡ length xs))
    here (yes l) = inl l
    here (no n) = inr (refl, omega (arith, length-append xs (o ∷ [])))
grown-cases false xs o i h = inl h

-- symbol s was judged faultless, with the symbols before it and the first `count` statements
pub record SymbolJudged (f syms stmts : List ℕ) (s : ℕ) : Type 0 where
  pub count : ℕ
  pub owed : Bool
  pub within : count ≤ length stmts
  pub kind : kind_at f (get_or syms s 0) ≡ 1
  pub faultless : Faultless f (take s syms) (take count stmts) owed (get_or syms s 0)

-- statement p was judged faultless, with the first `count` symbols and the statements before it, whose symbols are among them
pub record StatementJudged (f syms stmts : List ℕ) (p : ℕ) : Type 0 where
  pub count : ℕ
  pub owed : Bool
  pub within : count ≤ length syms
  pub kind : is_statement (kind_at f (get_or stmts p 0)) ≡ true
  pub faultless : Faultless f (take count syms) (take p stmts) owed (get_or stmts p 0)
  pub known : (q s : ℕ) → q < p → s ∈ symbols_at f (get_or stmts q 0) → s < count

-- the record at `o` is a proof, within the limits
pub record ProofRead (f : List ℕ) (o : ℕ) : Type 0 where
  pub kind : kind_at f o ≡ 6
  pub within : next_at f o ≤ length f
  pub size : rest_size f o ≤ 65536

-- what the walk has judged when it stands at `o`
pub record History (f syms stmts : List ℕ) (owed : Bool) (o : ℕ) : Type 0 where
  pub symbol : (s : ℕ) → s < length syms → SymbolJudged f syms stmts s
  pub statement : (p : ℕ) → p < length stmts → StatementJudged f syms stmts p
  pub proof : (p : ℕ) → p < length stmts → kind_at f (get_or stmts p 0) ≡ 5
      → ProofRead f (next_at f (get_or stmts p 0)) ⊎ ((next_at f (get_or stmts p 0) ≡ o) × (owed ≡ true))

-- every symbol of a judged statement is defined
pub judged-known : (f syms stmts : List ℕ) (p s : ℕ) (j : StatementJudged f syms stmts p) → s ∈ symbols_at f (get_or stmts p 0)
    → s < j.count
unfolding defined
judged-known f syms stmts p s j m =
    let r = reference-good f _ _ _ j.faultless.reference_row j.kind in
    let l : s < length (take j.count syms) = below_true _ _ (all-member (defined (take j.count syms)) _ r.symbols m) in
    omega (arith, length-take j.count syms)

module _ (f syms stmts : List ℕ) (owed : Bool) (o : ℕ) (past : History f syms stmts owed o) (now : Faultless f syms stmts owed o)
    (t u : Bool) where
  symbol-kept : (s : ℕ) → s < length syms → SymbolJudged f (grown t syms o) (grown u stmts o) s
  symbol-kept s h =
      let j = past.symbol s h in
      record {
        count = j.count;
        owed = j.owed;
        within = omega (arith, j.within, length-grown u stmts o);
        kind = rw (get_or-grown t syms o s h) j.kind;
        faultless = rw (get_or-grown t syms o s h, take-grown t syms o s (omega arith), take-grown u stmts o j.count j.within) j.faultless;
      }

  symbol-new : t ≡ true → kind_at f o ≡ 1 → SymbolJudged f (grown t syms o) (grown u stmts o) (length syms)
  symbol-new e k =
      record {
        count = length stmts;
        owed = owed;
        within = length-grown u stmts o;
        kind = rw (get_or-last t syms o e) k;
        faultless = rw (get_or-last t syms o e, take-old t syms o, take-old u stmts o) now;
      }

  statement-kept : (p : ℕ) → p < length stmts → StatementJudged f (grown t syms o) (grown u stmts o) p
  statement-kept p h =
      let j = past.statement p h in
      record {
        count = j.count;
        owed = j.owed;
        within = omega (arith, j.within, length-grown t syms o);
        kind = rw (get_or-grown u stmts o p h) j.kind;
        faultless = rw (get_or-grown u stmts o p h, take-grown u stmts o p (omega arith), take-grown t syms o j.count j.within) j.faultless;
        known = λ q s l m. j.known q s l (rw (get_or-grown u stmts o q (omega arith)) at m);
      }

  statement-new : u ≡ true → is_statement (kind_at f o) ≡ true → StatementJudged f (grown t syms o) (grown u stmts o) (length stmts)
  statement-new e k =
      record {
        count = length syms;
        owed = owed;
        within = length-grown t syms o;
        kind = rw (get_or-last u stmts o e) k;
        faultless = rw (get_or-last u stmts o e, take-old u stmts o, take-old t syms o) now;
        known = λ q s l m. known q s l (rw (get_or-grown u stmts o q l) at m);
      }
    where
      known : (q s : ℕ) → q < length stmts → s ∈ symbols_at f (get_or stmts q 0) → s < length syms
      known q s l m =
          let j = past.statement q l in
          omega (arith, j.within, judged-known f syms stmts q s j m)

  -- a proof that was owed has now been read
  proof-kept : (p : ℕ) → p < length stmts → kind_at f (get_or (grown u stmts o) p 0) ≡ 5
      → ProofRead f (next_at f (get_or (grown u stmts o) p 0))
  proof-kept p h k = rw (get_or-grown u stmts o p h) (here (past.proof p h (rw (get_or-grown u stmts o p h) at k)))
    where
      here : ProofRead f (next_at f (get_or stmts p 0)) ⊎ ((next_at f (get_or stmts p 0) ≡ o) × (owed ≡ true))
          → ProofRead f (next_at f (get_or stmts p 0))
      here (inl r) = r
      here (inr e) =
          let k : kind_at f o ≡ 6 = proof-good f owed o now.proof_row e.1 in
          rw e.0
          (record {
            kind = k;
            within = (record-well-formed f o now.record_row).within;
            size = (limits-kept f syms stmts o now.limit_row).text k;
          })

history-grows : (f syms stmts : List ℕ) (owed : Bool) (o : ℕ) → History f syms stmts owed o → Faultless f syms stmts owed o
    → History f (grown (equal (kind_at f o) 1) syms o) (grown (is_statement (kind_at f o)) stmts o) (equal (kind_at f o) 5) (next_at f o)
history-grows f syms stmts owed o past now =
    record {
      symbol = λ s h. symbol s (grown-cases t syms o s h);
      statement = λ p h. statement p (grown-cases u stmts o p h);
      proof = λ p h. proof p (grown-cases u stmts o p h);
    }
  where
    t : Bool
    t = equal (kind_at f o) 1

    u : Bool
    u = is_statement (kind_at f o)

    symbol : (s : ℕ) → (s < length syms) ⊎ ((t ≡ true) × (s ≡ length syms)) → SymbolJudged f (grown t syms o) (grown u stmts o) s
    symbol s (inl h) = symbol-kept f syms stmts owed o past now t u s h
    symbol s (inr e) = rw e.1 (symbol-new f syms stmts owed o past now t u e.0 (equal-true _ _ e.0))

    statement : (p : ℕ) → (p < length stmts) ⊎ ((u ≡ true) × (p ≡ length stmts)) → StatementJudged f (grown t syms o) (grown u stmts o) p
    statement p (inl h) = statement-kept f syms stmts owed o past now t u p h
    statement p (inr e) = rw e.1 (statement-new f syms stmts owed o past now t u e.0 e.0)

    proof : (p : ℕ) → (p < length stmts) ⊎ ((u ≡ true) × (p ≡ length stmts)) → kind_at f (get_or (grown u stmts o) p 0) ≡ 5
        → ProofRead f (next_at f (get_or (grown u stmts o) p 0)) ⊎ ((next_at f (get_or (grown u stmts o) p 0) ≡ next_at f o) × (equal (kind_at f o) 5 ≡ true))
    proof p (inl h) k = inl (proof-kept f syms stmts owed o past now t u p h k)
    proof p (inr e) k =
        let last : get_or (grown u stmts o) p 0 ≡ o = rw e.1 (get_or-last u stmts o e.0) in
        inr (ap (next_at f) last, equal-yes (rw last at k))

-- a good file's index has a history, and no proof is owed
pub good-history : (f : List ℕ) → GoodFile f → (o : ℕ) × History f (index f).symbols (index f).statements false o
unfolding nothing after
good-history f good =
    let h = good-keeps f (λ ix o. History f ix.symbols ix.statements ix.owed o)
    (record { symbol = λ s l. absurd (omega arith); statement = λ p l. absurd (omega arith); proof = λ p l. absurd (omega arith) })
    (λ ix o l past now. history-grows f ix.symbols ix.statements ix.owed o past now) good in
    (h.0, rw h.2 at h.1)
