-- The file stays good: with another proof text that is not too long the file is good, and its database is the old one but for that text.
use Prim.Native.Nat.{ℕ, suc, ◌≤◌, ◌<◌}
use mathlib.Core.Path.{◌≡◌, refl, sym, ap, ◌∙◌}
use mathlib.Core.Bool.{Bool, true, false}
use mathlib.Core.Logic.{◌⊎◌, inl, inr}
use mathlib.Core.List.{List, []}
use native.Mathlib.Omega.{arith}
use native.Mathlib.Numerals.{add-one}
use lib.ListN.{length, get_or}
use Rattle.frames.specs.Logic.{below, equal, pick}
use Rattle.frames.specs.Layout.{kind_at, next_at, supposes, rest_at}
use Rattle.frames.specs.Verdict.{nothing, walk, outcome, verdict, index, Good}
use Rattle.frames.specs.Database.{Statement, Database, symbol_at, statement_at, database, GoodFile}
use Rattle.frames.specs.Facts.{symbol_of, statement_of, FileFacts}
use Rattle.frames.proofs.Chains.{below-no, below_true, below_false, equal-true}
use Rattle.frames.proofs.Loops.{get_or_past}
use Rattle.frames.proofs.Fine.{record-well-formed}
use Rattle.facts.proofs.Decoded.{database-symbols, database-statements, database-symbol, database-statement}
use Rattle.facts.proofs.GoodFacts.{good-file-facts}
use Rattle.facts.proofs.Unique.{good-file}
use Rattle.postorder.specs.LongForm.{proof_from, with_proof}
use Rattle.postorder.specs.SameBut.{SameSymbol, SameStatement, SameBut}
use Rattle.postorder.proofs.Alike.{Alike, kind-alike, hyps-alike, pairs-alike, symbols-alike, rest-alike, scope-alike, class-alike}
use Rattle.postorder.proofs.AlikeRows.{none, both-length, both_at}
use Rattle.postorder.proofs.Replaced.{replacing, alike-before, new-text}
use Rattle.postorder.proofs.Ahead.{walk_steps}
use Rattle.postorder.proofs.Moves.{Place, ProofMoved, the_new, the_same, StatementMoved, IndexMoved, before, Moved, before-next, walk-moves, next-later}
use Rattle.postorder.proofs.InRow.{in_row}

-- the outcome of a file that is not too long is that of its walk
whole-walk : (f : List ℕ) → length f ≤ 1048576 → outcome f ≡ walk (suc (length f)) f nothing 0
unfolding outcome pick
whole-walk f l = rw (below-no l, add-one)

nothing_read : (f g : List ℕ) (q : ℕ) → IndexMoved f g q 0 0 nothing nothing
unfolding nothing
nothing_read f g q = record { symbols = none; statements = none; owed = refl }

pick-when : {A : Type 0} (t : Bool) {x y : A} (z : A) → (t ≡ true → x ≡ y) → pick t x z ≡ pick t y z
unfolding pick
pick-when true z e = e refl
pick-when false z e = refl

-- records that are alike are read as the same symbol, and as the same statement
alike-symbols : {f g : List ℕ} {x y : ℕ} → Alike f x g y → kind_at f x ≡ 1 → SameSymbol (symbol_at f x) (symbol_at g y)
unfolding symbol_at
alike-symbols a k = record { class = sym (class-alike a k); name = sym (rest-alike a) }

alike-statements : {f g : List ℕ} {x y : ℕ} → Alike f x g y → SameStatement (statement_at f x) (statement_at g y)
unfolding statement_at
alike-statements {f} {g} {x} {y} a =
    record {
      kind = sym (kind-alike a);
      end = rw (← kind-alike a) (pick-when (supposes (kind_at f x)) 0 (λ t. sym (scope-alike a t)));
      hyps = sym (hyps-alike a);
      pairs = sym (pairs-alike a);
      symbols = sym (symbols-alike a);
      label = sym (rest-alike a);
    }

alike-texts : {f g : List ℕ} {x y : ℕ} → Alike f x g y → (kind_at f x ≡ 5 → rest_at g (next_at g y) ≡ rest_at f (next_at f x))
    → (statement_at g y).text ≡ (statement_at f x).text
unfolding statement_at
alike-texts {f} {g} {x} {y} a e = rw (← kind-alike a) (pick-when (equal (kind_at f x) 5) [] (λ t. e (equal-true _ _ t)))

text_at : (f : List ℕ) (x : ℕ) → kind_at f x ≡ 5 → (statement_at f x).text ≡ rest_at f (next_at f x)
unfolding statement_at pick equal
text_at f x k = rw k

less : (a b : ℕ) → a ≤ b → (a ≡ b → ⊥) → a < b
less a b l n = tried (below a b) refl
  where
    tried : (t : Bool) → below a b ≡ t → a < b
    tried true e = below_true _ _ e
    tried false e = absurd (n (let m = below_false _ _ e in omega arith))

-- which proof it is
proof-new : {f g : List ℕ} {q a b : ℕ} → ProofMoved f g q a b → a ≡ q → b ≡ q
proof-new the_new e = refl
proof-new (the_same d a) e = absurd (d e)

proof-old : {f g : List ℕ} {q a b : ℕ} → ProofMoved f g q a b → (a ≡ q → ⊥) → Alike f a g b
proof-old the_new n = absurd (n refl)
proof-old (the_same d a) n = a

no_symbol : (db : Database) (s : ℕ) → length db.symbols ≤ s → symbol_of db s ≡ record { at = 0; class = 0; name = [] }
unfolding symbol_of
no_symbol db s l = sym (get_or_past db.symbols s (record { at = 0; class = 0; name = [] }) l)

no-statement : (db : Database) (s : ℕ) → length db.statements ≤ s
    → statement_of db s ≡ record { at = 0; kind = 0; end = 0; hyps = []; pairs = []; symbols = []; label = []; text = [] }
unfolding statement_of
no-statement db s l =
    sym (get_or_past db.statements s (record { at = 0; kind = 0; end = 0; hyps = []; pairs = []; symbols = []; label = []; text = [] }) l)

module _ (f : List ℕ) (p : ℕ) (text : List ℕ) (good : GoodFile f) (there : p < length (database f).statements)
    (kind : (statement_of (database f) p).kind ≡ 5) (short : length text ≤ 65536) (whole : length (with_proof f p text) ≤ 1048576) where
  facts : FileFacts f
  facts = good-file-facts f good

  there' : p < length (index f).statements
  there' = omega (arith, database-statements f)

  offset : get_or (index f).statements p 0 ≡ (statement_of (database f) p).at
  unfolding statement_at
  offset = sym (ap (λ (st : Statement). st.at) (database-statement f p there'))

  place : Place f (outcome f) p (statement_of (database f) p).at (proof_from f p) (next_at f (proof_from f p))
  unfolding proof_from index
  place =
      record {
        there = there';
        is = offset;
        kind = facts.statement_kind p there ∙ kind;
        proof_at = refl;
        proof_kind = facts.proof_follows p there kind;
        proof_end = refl;
        within = facts.proof_within p there kind;
      }

  new : with_proof f p text ≡ replacing f (proof_from f p) (next_at f (proof_from f p)) text
  unfolding with_proof replacing
  new = refl

  good-outcome : (outcome f).verdict ≡ Good (length (database f).symbols) (length (database f).statements)
  unfolding verdict
  good-outcome = good.is

  first_step : Alike f 0 (with_proof f p text) 0
  unfolding nothing
  first_step =
      let e = sym (whole-walk f facts.size) in
      let n = walk_steps f (length f) nothing 0 (outcome f) _ _ e good-outcome (omega (arith, place.within, next-later f (proof_from f p))) in
      let s = before-next f (outcome f) _ _ p _ _ _ good-outcome place text short (length f) nothing 0 (omega arith) (omega arith) n.1 in
      rw new
      (alike-before f (proof_from f p) (next_at f (proof_from f p)) text (omega (arith, next-later f (proof_from f p))) place.within 0
      (record-well-formed f 0 n.0.record_row) s.0)

  moved : Moved f (outcome f) _ _ p _ (proof_from f p) (next_at f (proof_from f p)) good-outcome place text short (outcome (with_proof f p text))
  unfolding nothing replacing with_proof
  moved =
      rw (whole-walk (with_proof f p text) whole)
      (walk-moves f (outcome f) _ _ p _ _ _ good-outcome place text short first_step (suc (length f)) (suc (length (with_proof f p text))) nothing nothing 0 0
      (sym (whole-walk f facts.size)) (omega arith) (omega arith) (omega arith) (before (omega arith) (omega arith)) (nothing_read _ _ _))

  -- the new file is good
  pub stays-good : GoodFile (with_proof f p text)
  unfolding verdict index
  stays-good = good-file (with_proof f p text) moved.verdict

  both-index : IndexMoved f (with_proof f p text) (proof_from f p) (length f) (length (with_proof f p text)) (index f) (index (with_proof f p text))
  unfolding index replacing with_proof
  both-index = moved.index

  symbols-many : length (index f).symbols ≡ length (index (with_proof f p text)).symbols
  symbols-many = both-length both-index.symbols

  statements-many : length (index f).statements ≡ length (index (with_proof f p text)).statements
  statements-many = both-length both-index.statements

  same-symbol : (s : ℕ) → SameSymbol (symbol_of (database f) s) (symbol_of (database (with_proof f p text)) s)
  same-symbol s = tried (below s (length (index f).symbols)) refl
    where
      tried : (t : Bool) → below s (length (index f).symbols) ≡ t → SameSymbol (symbol_of (database f) s) (symbol_of (database (with_proof f p text)) s)
      tried true e =
          let l = below_true _ _ e in
          let r = both_at both-index.symbols s l in
          rw (database-symbol f s l, database-symbol (with_proof f p text) s (omega (arith, symbols-many))) (alike-symbols r.alike r.kind)
      tried false e =
          let l = below_false _ _ e in
          rw (
            no_symbol (database f) s (omega (arith, database-symbols f)),
            no_symbol (database (with_proof f p text)) s (omega (arith, database-symbols (with_proof f p text), symbols-many)),
          )
          (record { class = refl; name = refl })

  same-statement : (s : ℕ) → SameStatement (statement_of (database f) s) (statement_of (database (with_proof f p text)) s)
  same-statement s = tried (below s (length (index f).statements)) refl
    where
      tried : (t : Bool) → below s (length (index f).statements) ≡ t
          → SameStatement (statement_of (database f) s) (statement_of (database (with_proof f p text)) s)
      tried true e =
          let l = below_true _ _ e in
          rw (database-statement f s l, database-statement (with_proof f p text) s (omega (arith, statements-many)))
          (alike-statements (both_at both-index.statements s l).alike)
      tried false e =
          let l = below_false _ _ e in
          rw (
            no-statement (database f) s (omega (arith, database-statements f)),
            no-statement (database (with_proof f p text)) s (omega (arith, database-statements (with_proof f p text), statements-many)),
          )
          (record { kind = refl; end = refl; hyps = refl; pairs = refl; symbols = refl; label = refl })

  -- the proof of statement p is the new text
  new-proof : rest_at (with_proof f p text) (proof_from f p) ≡ text
  new-proof =
      rw new
      (new-text f (proof_from f p) (next_at f (proof_from f p)) text (omega (arith, next-later f (proof_from f p))) place.within)

  -- the record of a statement number in both files
  both-statement : (s : ℕ) → s < length (index f).statements
      → StatementMoved f (with_proof f p text) (proof_from f p) (length f) (length (with_proof f p text)) (get_or (index f).statements s 0)
      (get_or (index (with_proof f p text)).statements s 0)
  both-statement s l = both_at both-index.statements s l

  at_p : next_at f (get_or (index f).statements p 0) ≡ proof_from f p
  unfolding proof_from
  at_p = ap (next_at f) offset

  text-there : (statement_of (database (with_proof f p text)) p).text ≡ text
  text-there =
      let m = both-statement p there' in
      let k : kind_at f (get_or (index f).statements p 0) ≡ 5 = rw offset place.kind in
      rw (database-statement (with_proof f p text) p (omega (arith, statements-many, there')))
      (text_at (with_proof f p text) _ (sym (kind-alike m.alike) ∙ k) ∙ (ap (rest_at (with_proof f p text)) (new-one (m.proof k)) ∙ new-proof))
    where
      new-one : ((next_at f (get_or (index f).statements p 0) ≡ length f)
          × (next_at (with_proof f p text) (get_or (index (with_proof f p text)).statements p 0) ≡ length (with_proof f p text)))
          ⊎ ProofMoved f (with_proof f p text) (proof_from f p) (next_at f (get_or (index f).statements p 0))
          (next_at (with_proof f p text) (get_or (index (with_proof f p text)).statements p 0))
          → next_at (with_proof f p text) (get_or (index (with_proof f p text)).statements p 0) ≡ proof_from f p
      new-one (inl e) = absurd (omega (arith, e.0, at_p, place.within, next-later f (proof_from f p)))
      new-one (inr v) = proof-new v at_p

  not-p : (s : ℕ) → (s ≡ p → ⊥) → s < length (index f).statements → next_at f (get_or (index f).statements s 0) ≡ proof_from f p → ⊥
  not-p s n l e = tried (below s p) refl
    where
      tried : (t : Bool) → below s p ≡ t → ⊥
      tried true c =
          omega (arith, in_row f good s p (below_true _ _ c) there', at_p, next-later f (get_or (index f).statements p 0))
      tried false c =
          omega (arith, in_row f good p s (less p s (below_false _ _ c) (λ d. n (sym d))) l, at_p, next-later f (get_or (index f).statements s 0))

  -- a $p has its proof within the file
  proof-missing : (s : ℕ) → s < length (index f).statements → kind_at f (get_or (index f).statements s 0) ≡ 5
      → next_at f (get_or (index f).statements s 0) ≡ length f → ⊥
  unfolding statement_at
  proof-missing s l k e =
      let st = database-statement f s l in
      let here : s < length (database f).statements = omega (arith, database-statements f) in
      let kind-is : (statement_of (database f) s).kind ≡ 5 = ap (λ (x : Statement). x.kind) st ∙ k in
      let at-is : (statement_of (database f) s).at ≡ get_or (index f).statements s 0 = ap (λ (x : Statement). x.at) st in
      let within = rw at-is at (facts.proof_within s here kind-is) in
      omega (arith, next-later f (next_at f (get_or (index f).statements s 0)))

  text-elsewhere : (s : ℕ) → (s ≡ p → ⊥) → (statement_of (database (with_proof f p text)) s).text ≡ (statement_of (database f) s).text
  text-elsewhere s n = tried (below s (length (index f).statements)) refl
    where
      old-one : (l : s < length (index f).statements) → kind_at f (get_or (index f).statements s 0) ≡ 5
          → ((next_at f (get_or (index f).statements s 0) ≡ length f)
          × (next_at (with_proof f p text) (get_or (index (with_proof f p text)).statements s 0) ≡ length (with_proof f p text)))
          ⊎ ProofMoved f (with_proof f p text) (proof_from f p) (next_at f (get_or (index f).statements s 0))
          (next_at (with_proof f p text) (get_or (index (with_proof f p text)).statements s 0))
          → rest_at (with_proof f p text) (next_at (with_proof f p text) (get_or (index (with_proof f p text)).statements s 0))
          ≡ rest_at f (next_at f (get_or (index f).statements s 0))
      old-one l k (inl e) = absurd (proof-missing s l k e.0)
      old-one l k (inr v) = sym (rest-alike (proof-old v (not-p s n l)))

      tried : (t : Bool) → below s (length (index f).statements) ≡ t
          → (statement_of (database (with_proof f p text)) s).text ≡ (statement_of (database f) s).text
      tried true e =
          let l = below_true _ _ e in
          let m = both-statement s l in
          rw (database-statement f s l, database-statement (with_proof f p text) s (omega (arith, statements-many)))
          (alike-texts m.alike (λ k. old-one l k (m.proof k)))
      tried false e =
          let l = below_false _ _ e in
          rw (
            no-statement (database f) s (omega (arith, database-statements f)),
            no-statement (database (with_proof f p text)) s (omega (arith, database-statements (with_proof f p text), statements-many)),
          )
          refl

  -- and its database is the old one but for that text
  pub same-but : SameBut (database f) (database (with_proof f p text)) p text
  same-but =
      record {
        symbol-count = omega (arith, database-symbols f, database-symbols (with_proof f p text), symbols-many);
        statement_count = omega (arith, database-statements f, database-statements (with_proof f p text), statements-many);
        symbol = same-symbol;
        statement = same-statement;
        text_is = text-there;
        text_kept = text-elsewhere;
      }
