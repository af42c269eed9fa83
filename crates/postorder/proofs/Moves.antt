-- The walk over a file with another proof record: it reads the same records, those before the proof in their places, those after it moved.
use Rattle.std.proofs.Common.{None}
use Prim.Native.Nat.{ℕ, zero, suc, ◌+◌, ◌-◌, ◌≤◌, ◌<◌}
use mathlib.Core.Path.{◌≡◌, refl, sym, ap, ◌∙◌}
use mathlib.Core.Bool.{Bool, true, false}
use mathlib.Core.Logic.{◌⊎◌, inl, inr}
use mathlib.Core.List.{List, [], ◌∷◌, ◌++◌}
use native.Mathlib.Omega.{arith}
use lib.ListN.{length, get_or, length-append}
use lib.Seq.{get_or-append_seam}
use Rattle.frames.specs.Logic.{below, equal, pick, either}
use Rattle.frames.specs.Layout.{length_at, kind_at, next_at, asserts, supposes, is_statement}
use Rattle.frames.specs.Verdict.{Index, Outcome, after, at_end, end_verdict, decided, fault_at, walk, Good}
use Rattle.frames.proofs.Chains.{at_most-no, at_most-yes, below_true, below_false, equal-yes, equal-true}
use Rattle.frames.proofs.Fine.{Faultless, record-well-formed}
use Rattle.facts.proofs.Kept.{refused-not-good}
use Rattle.postorder.proofs.Alike.{Alike, length-alike, kind-alike}
use Rattle.postorder.proofs.AlikeRows.{Both, none, also, both-more, AlikeSymbol, fine-alike}
use Rattle.postorder.proofs.Replaced.{replacing, new-length, alike-before, alike-after, new-kind, new-next, new-fine}
use Rattle.postorder.proofs.Ahead.{Beyond, beyond-walk, walk_steps}

both-map : {R S : ℕ → ℕ → Type 0} {xs ys : List ℕ} → ((x y : ℕ) → R x y → S x y) → Both R xs ys → Both S xs ys
both-map f none = none
both-map f (also r b) = also (f _ _ r) (both-map f b)

-- the place of the proof: the statement's record at `at`, its proof record from q to r
pub record Place (f : List ℕ) (w : Outcome) (p at q r : ℕ) : Type 0 where
  pub there : p < length w.index.statements
  pub is : get_or w.index.statements p 0 ≡ at
  pub kind : kind_at f at ≡ 5
  pub proof_at : next_at f at ≡ q
  pub proof_kind : kind_at f q ≡ 6
  pub proof_end : next_at f q ≡ r
  pub within : r ≤ length f

-- the proofs of a statement in both files: both are alike, or they are the old and the new
pub data ProofMoved (f g : List ℕ) (q : ℕ) : ℕ → ℕ → Type 0 where
  the_new : ProofMoved f g q q q
  the_same : {x y : ℕ} → (x ≡ q → ⊥) → Alike f x g y → ProofMoved f g q x y

-- a statement in both files, where the walks stand at o and o'
pub record StatementMoved (f g : List ℕ) (q o o' x y : ℕ) : Type 0 where
  pub alike : Alike f x g y
  pub proof : kind_at f x ≡ 5 → ((next_at f x ≡ o) × (next_at g y ≡ o')) ⊎ ProofMoved f g q (next_at f x) (next_at g y)

pub record IndexMoved (f g : List ℕ) (q o o' : ℕ) (ix ix' : Index) : Type 0 where
  pub symbols : Both (AlikeSymbol f g) ix.symbols ix'.symbols
  pub statements : Both (StatementMoved f g q o o') ix.statements ix'.statements
  pub owed : ix'.owed ≡ ix.owed

-- what has been read when the next record is read too
proof-read : {f g : List ℕ} {q o o' n n' x y : ℕ} → ProofMoved f g q o o' → StatementMoved f g q o o' x y → StatementMoved f g q n n' x y
proof-read {f} {g} {q} {o} {o'} {n} {n'} {x} {y} v s = record { alike = s.alike; proof = λ k. inr (told (s.proof k)) }
  where
    told : ((next_at f x ≡ o) × (next_at g y ≡ o')) ⊎ ProofMoved f g q (next_at f x) (next_at g y) → ProofMoved f g q (next_at f x) (next_at g y)
    told (inl e) = rw (e.0, e.1) v
    told (inr w) = w

grown-symbols : {f g : List ℕ} {o o' : ℕ} {xs ys : List ℕ} (t : Bool) → (t ≡ true → AlikeSymbol f g o o') → Both (AlikeSymbol f g) xs ys
    → Both (AlikeSymbol f g) (pick t (xs ++ (o ∷ [])) xs) (pick t (ys ++ (o' ∷ [])) ys)
unfolding pick
grown-symbols true a b = both-more b (a refl)
grown-symbols false a b = b

grown-statements : {R : ℕ → ℕ → Type 0} (o o' : ℕ) {xs ys : List ℕ} (t : Bool) → R o o' → Both R xs ys
    → Both R (pick t (xs ++ (o ∷ [])) xs) (pick t (ys ++ (o' ∷ [])) ys)
unfolding pick
grown-statements o o' true a b = both-more b a
grown-statements o o' false a b = b

index-grows : {f g : List ℕ} {q o o' : ℕ} {ix ix' : Index} → (o ≡ q → ⊥) → Alike f o g o' → IndexMoved f g q o o' ix ix'
    → IndexMoved f g q (next_at f o) (next_at g o') (after f ix o) (after g ix' o')
unfolding after
index-grows {f} {g} {q} {o} {o'} {ix} {ix'} d a m =
    rw (← kind-alike a)
    (record {
      symbols = grown-symbols (equal (kind_at f o) 1) (λ t. record { alike = a; kind = equal-true _ _ t }) m.symbols;
      statements =
          grown-statements o o' (is_statement (kind_at f o)) (record { alike = a; proof = λ k. inl (refl, refl) })
          (both-map (λ x y s. proof-read (the_same d a) s) m.statements);
      owed = refl;
    })

-- a proof record is neither a symbol nor a statement
proof-grows : {f g : List ℕ} {q : ℕ} {ix ix' : Index} → kind_at f q ≡ 6 → kind_at g q ≡ 6 → (n n' : ℕ) → IndexMoved f g q q q ix ix'
    → IndexMoved f g q n n' (after f ix q) (after g ix' q)
unfolding after pick is_statement asserts supposes either equal
proof-grows k k' n n' m =
    rw (k, k')
    (record { symbols = m.symbols; statements = both-map (λ x y s. proof-read the_new s) m.statements; owed = refl })

next-same : {f g : List ℕ} {o : ℕ} → Alike f o g o → next_at g o ≡ next_at f o
unfolding next_at
next-same {f} {g} {o} a = omega (arith, length-alike a)

pub next-later : (f : List ℕ) (o : ℕ) → o < next_at f o
unfolding next_at
next-later f o = omega arith

-- one step of a walk over a record without a fault, and its end
walk-goes : (k : ℕ) (f : List ℕ) (ix : Index) (o : ℕ) → o < length f → fault_at f ix.symbols ix.statements ix.owed o ≡ None
    → walk (suc k) f ix o ≡ walk k f (after f ix o) (next_at f o)
unfolding walk pick decided
walk-goes k f ix o l e = rw (at_most-no l, e)

walk_ends : (k : ℕ) (f : List ℕ) (ix : Index) (o : ℕ) → length f ≤ o → walk (suc k) f ix o ≡ at_end f ix
unfolding walk pick
walk_ends k f ix o l = rw (at_most-yes l)

-- the statements after a record is read
unread : (f : List ℕ) (ix : Index) (o : ℕ) → is_statement (kind_at f o) ≡ false → (after f ix o).statements ≡ ix.statements
unfolding after pick
unread f ix o e = rw e

read : (f : List ℕ) (ix : Index) (o : ℕ) → is_statement (kind_at f o) ≡ true → (after f ix o).statements ≡ ix.statements ++ (o ∷ [])
unfolding after pick
read f ix o e = rw e

module _ (f : List ℕ) (w : Outcome) (a b p at q r : ℕ) (good : w.verdict ≡ Good a b) (place : Place f w p at q r) (text : List ℕ)
    (short : length text ≤ 65536) where
  order : (at < q) × (q < r)
  unfolding next_at
  order = (omega (arith, place.proof_at), omega (arith, place.proof_end))

  -- where the two walks stand
  pub data Where (ix : Index) : ℕ → ℕ → Type 0 where
    before : {o : ℕ} → length ix.statements ≤ p → o ≤ at → Where ix o o
    at_proof : ix.owed ≡ true → Where ix q q
    past : {o : ℕ} → r ≤ o → Where ix o (q + (6 + length text) + (o - r))

  -- a statement that is not number p leaves p ahead
  still-ahead : (k : ℕ) (ix : Index) (o : ℕ) → length ix.statements ≤ p → o < at → walk k f (after f ix o) (next_at f o) ≡ w
      → (length (after f ix o).statements ≤ p) × (next_at f o ≤ at)
  still-ahead k ix o l m e =
      let b = rw e at (beyond-walk f k (after f ix o) (next_at f o)) in
      let few = not_yet b (is_statement (kind_at f o)) refl in
      (few, rw place.is at (b.ahead p few place.there))
    where
      tried : (t : Bool) → is_statement (kind_at f o) ≡ t → (u : Bool) → below (length ix.statements) p ≡ u
          → Beyond (after f ix o) (next_at f o) w.index → length (after f ix o).statements ≤ p
      tried false c u d b = rw (unread f ix o c) l
      tried true c true d b = omega (arith, ap length (read f ix o c), length-append ix.statements (o ∷ []), below_true _ _ d)
      tried true c false d b =
          let size = ap length (read f ix o c) ∙ length-append ix.statements (o ∷ []) in
          let same : p ≡ length ix.statements = omega (arith, below_false _ _ d) in
          let here : get_or (after f ix o).statements p 0 ≡ o = rw (same, read f ix o c) (get_or-append_seam ix.statements o [] 0) in
          absurd (omega (arith, b.kept p (omega arith), place.is))

      not_yet : Beyond (after f ix o) (next_at f o) w.index → (t : Bool) → is_statement (kind_at f o) ≡ t → length (after f ix o).statements ≤ p
      not_yet b t c = tried t c (below (length ix.statements) p) refl b

  below-cases : (o : ℕ) → o ≤ at → (o ≡ at) ⊎ (o < at)
  below-cases o l = tried (below o at) refl
    where
      tried : (t : Bool) → below o at ≡ t → (o ≡ at) ⊎ (o < at)
      tried true e = inr (below_true _ _ e)
      tried false e = inl (omega (arith, below_false _ _ e))

  -- a record before the proof ends before it
  pub before-next : (k : ℕ) (ix : Index) (o : ℕ) → length ix.statements ≤ p → o ≤ at → walk k f (after f ix o) (next_at f o) ≡ w
      → (next_at f o ≤ q) × Where (after f ix o) (next_at f o) (next_at f o)
  unfolding after
  before-next k ix o l m e = cases (below-cases o m)
    where
      cases : (o ≡ at) ⊎ (o < at) → (next_at f o ≤ q) × Where (after f ix o) (next_at f o) (next_at f o)
      cases (inl c) =
          let here : next_at f o ≡ q = rw c place.proof_at in
          let kind : kind_at f o ≡ 5 = rw c place.kind in
          rw here (omega arith, at_proof (equal-yes kind))
      cases (inr c) =
          let s = still-ahead k ix o l c e in
          (omega (arith, order.0, s.1), before s.0 s.1)

  past_next : (o : ℕ) → r ≤ o → Alike f o (replacing f q r text) (q + (6 + length text) + (o - r))
      → {ix : Index} → Where ix (next_at f o) (next_at (replacing f q r text) (q + (6 + length text) + (o - r)))
  unfolding next_at
  past_next o h a =
      let e : q + (6 + length text) + (o - r) + 4 + length_at (replacing f q r text) (q + (6 + length text) + (o - r))
      ≡ q + (6 + length text) + (o + 4 + length_at f o - r) = omega (arith, length-alike a) in
      rw e (past {o = o + 4 + length_at f o} (omega arith))

  -- the record that is read in both files
  record Step (ix ix' : Index) (o o' : ℕ) : Type 0 where
    fine : fault_at (replacing f q r text) ix'.symbols ix'.statements ix'.owed o' ≡ None
    goes : Where (after f ix o) (next_at f o) (next_at (replacing f q r text) o')
    moved : IndexMoved f (replacing f q r text) q (next_at f o) (next_at (replacing f q r text) o') (after f ix o) (after (replacing f q r text) ix' o')
    forward : o' < next_at (replacing f q r text) o'

  alike-step : (ix ix' : Index) (o o' : ℕ) → (o ≡ q → ⊥) → Alike f 0 (replacing f q r text) 0 → Alike f o (replacing f q r text) o'
      → Faultless f ix.symbols ix.statements ix.owed o → IndexMoved f (replacing f q r text) q o o' ix ix'
      → Where (after f ix o) (next_at f o) (next_at (replacing f q r text) o') → Step ix ix' o o'
  unfolding next_at
  alike-step ix ix' o o' d z a n m v =
      record {
        fine = rw m.owed (fine-alike f (replacing f q r text) z m.symbols (both-map (λ x y s. record { alike = s.alike }) m.statements) a ix.owed n);
        goes = v;
        moved = index-grows d a m;
        forward = omega arith;
      }

  step-moves : (k : ℕ) (ix ix' : Index) {o o' : ℕ} → Alike f 0 (replacing f q r text) 0 → Faultless f ix.symbols ix.statements ix.owed o
      → IndexMoved f (replacing f q r text) q o o' ix ix' → walk k f (after f ix o) (next_at f o) ≡ w → Where ix o o' → Step ix ix' o o'
  step-moves k ix ix' {o} z n m e (before l h) =
      let s = before-next k ix o l h e in
      let a = alike-before f q r text (omega (arith, order.1)) place.within o (record-well-formed f o n.record_row) s.0 in
      let same : next_at (replacing f q r text) o ≡ next_at f o = next-same a in
      alike-step ix ix' o o (λ c. omega (arith, order.0)) z a n m (rw same s.1)
  step-moves k ix ix' z n m e (at_proof owed) =
      record {
        fine = rw (m.owed ∙ owed) (new-fine f q r text (omega (arith, order.1)) place.within short ix'.symbols ix'.statements);
        goes = past-proof;
        moved = proof-grows place.proof_kind (new-kind f q r text (omega (arith, order.1)) place.within) _ _ m;
        forward = omega (arith, new-next f q r text (omega (arith, order.1)) place.within);
      }
    where
      past-proof : Where (after f ix q) (next_at f q) (next_at (replacing f q r text) q)
      past-proof =
          let start : q + (6 + length text) ≡ q + (6 + length text) + (r - r) = omega arith in
          rw (place.proof_end, new-next f q r text (omega (arith, order.1)) place.within, start) (past {o = r} (omega arith))
  step-moves k ix ix' {o} z n m e (past h) =
      let a = alike-after f q r text (omega (arith, order.1)) place.within o (record-well-formed f o n.record_row) h in
      alike-step ix ix' o (q + (6 + length text) + (o - r)) (λ c. omega (arith, order.1)) z a n m (past_next o h a)

  -- the whole walk: both end well, with the same records read
  pub record Moved (w' : Outcome) : Type 0 where
    pub verdict : w'.verdict ≡ Good (length w'.index.symbols) (length w'.index.statements)
    pub index : IndexMoved f (replacing f q r text) q (length f) (length (replacing f q r text)) w.index w'.index

  size : length (replacing f q r text) ≡ q + (6 + length text) + (length f - r)
  size = new-length f q r text (omega (arith, order.1)) place.within

  -- at the end of the one file the other ends too, and not before
  ends_there : {ix : Index} {o o' : ℕ} → Where ix o o' → o ≡ length f → o' ≡ length (replacing f q r text)
  ends_there (before l h) e = absurd (omega (arith, order.0, order.1, place.within))
  ends_there (at_proof h) e = absurd (omega (arith, order.1, place.within))
  ends_there (past h) e = omega (arith, size)

  not_there : {ix : Index} {o o' : ℕ} → Where ix o o' → o < length f → o' < length (replacing f q r text)
  not_there (before l h) e = omega (arith, order.0, size)
  not_there (at_proof h) e = omega (arith, size)
  not_there (past h) e = omega (arith, size, place.within)

  none-owed : (owed : Bool) (n s t : ℕ) → end_verdict owed n s t ≡ Good a b → owed ≡ false
  unfolding end_verdict pick
  none-owed true n s t e = absurd (refused-not-good refl e)
  none-owed false n s t e = refl

  end_moved : (ix ix' : Index) {o o' : ℕ} → at_end f ix ≡ w → Where ix o o' → o ≡ length f
      → IndexMoved f (replacing f q r text) q o o' ix ix' → Moved (at_end (replacing f q r text) ix')
  unfolding at_end end_verdict pick
  end_moved ix ix' {o} {o'} e v l m =
      let as-index : ix ≡ w.index = ap (λ (x : Outcome). x.index) e in
      let as-verdict = ap (λ (x : Outcome). x.verdict) e ∙ good in
      let no-owed : ix'.owed ≡ false = m.owed ∙ none-owed ix.owed _ _ _ as-verdict in
      let there : o' ≡ length (replacing f q r text) = ends_there v l in
      record { verdict = rw no-owed; index = rw (l, there, as-index) at m }

  pub walk-moves : Alike f 0 (replacing f q r text) 0 → (k k' : ℕ) (ix ix' : Index) (o o' : ℕ) → walk k f ix o ≡ w → length f < k + o
      → length (replacing f q r text) < k' + o' → o ≤ length f → Where ix o o' → IndexMoved f (replacing f q r text) q o o' ix ix'
      → Moved (walk k' (replacing f q r text) ix' o')
  walk-moves z zero k' ix ix' o o' e l l' h v m = absurd (omega arith)
  walk-moves z (suc k) zero ix ix' o o' e l l' h v m = absurd (out-of-fuel (below o (length f)) refl)
    where
      out-of-fuel : (t : Bool) → below o (length f) ≡ t → ⊥
      out-of-fuel true c = omega (arith, not_there v (below_true _ _ c))
      out-of-fuel false c = omega (arith, ends_there v (let d = below_false _ _ c in omega arith))
  walk-moves z (suc k) (suc k') ix ix' o o' e l l' h v m =
      tried (below o (length f)) refl (λ ix₂ ix₂' o₂ o₂'. walk-moves z k k' ix₂ ix₂' o₂ o₂')
    where
      tried : (t : Bool) → below o (length f) ≡ t
          → ((ix₂ ix₂' : Index) (o₂ o₂' : ℕ) → walk k f ix₂ o₂ ≡ w → length f < k + o₂ → length (replacing f q r text) < k' + o₂' → o₂ ≤ length f
          → Where ix₂ o₂ o₂' → IndexMoved f (replacing f q r text) q o₂ o₂' ix₂ ix₂' → Moved (walk k' (replacing f q r text) ix₂' o₂'))
          → Moved (walk (suc k') (replacing f q r text) ix' o')
      tried true c rest =
          let d = below_true _ _ c in
          let n = walk_steps f k ix o w a b e good d in
          let s = step-moves k ix ix' z n.0 m n.1 v in
          let formed = record-well-formed f o n.0.record_row in
          rw (walk-goes k' (replacing f q r text) ix' o' (not_there v d) s.fine)
          (rest (after f ix o) (after (replacing f q r text) ix' o') (next_at f o) (next_at (replacing f q r text) o') n.1
          (omega (arith, next-later f o)) (omega (arith, s.forward)) formed.within s.goes s.moved)
      tried false c rest =
          let d = below_false _ _ c in
          let last : o ≡ length f = omega arith in
          rw (walk_ends k' (replacing f q r text) ix' o' (omega (arith, ends_there v last)))
          (end_moved ix ix' (sym (walk_ends k f ix o d) ∙ e) v last m)
