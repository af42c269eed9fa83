-- What a label names. No two statements of a good file have one label, so the one that a search finds is the only one that could pass the
-- definition's tests, and its kind decides between them.
use Rattle.std.proofs.Common.{Some, None}
use Prim.Native.Nat.{ℕ, zero, suc, ◌+◌, ◌<◌}
use mathlib.Core.Path.{◌≡◌, refl, sym, ◌∙◌, ap, subst}
use mathlib.Core.Bool.{Bool, true, false}
use mathlib.Core.Logic.{◌⊎◌, inl, inr}
use mathlib.Core.Option.{none, some}
use mathlib.Core.List.Memᴰ
use mathlib.Core.List.{List, [], ◌∷◌}
use native.Mathlib.Omega.{arith}
use lib.ListN.{length, get_or}
use Rattle.frames.specs.Logic.{equal, pick, either, no, same}
use Rattle.frames.specs.Table.{used}
use Rattle.frames.specs.Verdict.{index}
use Rattle.frames.specs.Search.{FindsStatement, FoundStatement}
use Rattle.frames.specs.Database.{Statement, Database, database, statement_at}
use Rattle.frames.specs.Facts.{◌∈◌, statement_of, Facts}
use Rattle.frames.specs.declared.numbers.StatementNo.{StatementNo}
use Rattle.frames.proofs.Chains.{pick_first, pick_second, equal-yes, equal-true, both-second, either_second, no-of-true, no-of-false}
use Rattle.frames.proofs.Found.{same_true, same_self}
use Rattle.frames.proofs.Tells.{true-not-false, both_true, no_true, no_false, either-false, any-witness, any-member}
use Rattle.facts.proofs.Decoded.{database-statements}
use Rattle.facts.proofs.GoodFacts.{good-facts}
use Rattle.facts.proofs.Searches.{unfound-statement}
use Rattle.machine.specs.Ground.{is_essential, among}
use Rattle.machine.specs.Prepare.{first_from, bears, sought, bears_own, sought_own, or_else, sought_label}
use Rattle.resolve.specs.Filed.{Filed}
use Rattle.resolve.specs.Resolve.{statement_found, may_name, FindsNamed, FindsLabel}
use Rattle.resolve.proofs.Filing.{filed-length, filed-statement}

-- a test that cannot hold fails
pub refuted : {t : Bool} → (t ≡ true → ⊥) → t ≡ false
refuted {t} h = tried t h
  where
    tried : (u : Bool) → (u ≡ true → ⊥) → u ≡ false
    tried true g = absurd (g refl)
    tried false g = refl

-- what the two tests on a statement say of it
module _ (label : List ℕ) (st : Statement) where
  bears-label : bears label st ≡ true → st.label ≡ label
  unfolding bears
  bears-label e = same_true _ _ (both_true _ _ e).1

  bears-other : bears label st ≡ true → is_essential st ≡ false
  unfolding bears
  bears-other e = no_true _ (both_true _ _ e).0

  bears-yes : st.label ≡ label → is_essential st ≡ false → bears label st ≡ true
  unfolding bears
  bears-yes e other = sym (both-second (no-of-false other) (sym (ap (λ (l : List ℕ). same l label) e ∙ same_self label)))

  own-label : bears_own label st ≡ true → st.label ≡ label
  unfolding bears_own
  own-label e = same_true _ _ (both_true _ _ e).1

  own-essential : bears_own label st ≡ true → is_essential st ≡ true
  unfolding bears_own
  own-essential e = (both_true _ _ e).0

  own-yes : st.label ≡ label → is_essential st ≡ true → bears_own label st ≡ true
  unfolding bears_own
  own-yes e own = sym (both-second own (sym (ap (λ (l : List ℕ). same l label) e ∙ same_self label)))

-- the first statement that passes: none, or the only one
first-none : (test : Statement → Bool) (i : ℕ) (sts : List Statement) (d : Statement)
    → ((k : ℕ) → k < length sts → test (get_or sts k d) ≡ false) → none ≡ first_from test i sts
unfolding first_from
first-none test i [] d fails = refl
first-none test i (st ∷ sts) d fails =
    pick_second (some i) (fails 0 (omega arith)) (first-none test (suc i) sts d (λ k l. fails (suc k) (omega arith)))

first-only : (test : Statement → Bool) (i : ℕ) (sts : List Statement) (d : Statement) (s j : ℕ) → s ≡ i + j → j < length sts
    → test (get_or sts j d) ≡ true → ((k : ℕ) → k < length sts → test (get_or sts k d) ≡ true → k ≡ j) → some s ≡ first_from test i sts
unfolding first_from
first-only test i [] d s j e there passes only = absurd (omega arith)
first-only test i (st ∷ sts) d s zero e there passes only =
    pick_first (first_from test (suc i) sts) passes (let z : s ≡ i = omega arith in ap some z)
first-only test i (st ∷ sts) d s (suc j) e there passes only =
    pick_second (some i) (refuted (λ t. let z = only 0 (omega arith) t in omega arith))
    (first-only test (suc i) sts d s j (omega arith) (omega arith) passes
    (λ k l t. let z = only (suc k) (omega arith) t in omega arith))

-- the same among the listed $e
own-none : (db : Database) (label hs : List ℕ) → ((h : ℕ) → h ∈ hs → bears_own label (statement_of db h) ≡ false)
    → none ≡ sought_own db label hs
unfolding sought_own
own-none db label [] fails = refl
own-none db label (h ∷ hs) fails =
    pick_second (some h) (fails h (Memᴰ.head refl)) (own-none db label hs (λ g m. fails g (Memᴰ.tail m)))

own-only : (db : Database) (label hs : List ℕ) (s : ℕ) → s ∈ hs → bears_own label (statement_of db s) ≡ true
    → ((h : ℕ) → h ∈ hs → bears_own label (statement_of db h) ≡ true → h ≡ s) → some s ≡ sought_own db label hs
unfolding sought_own
own-only db label [] s m passes only = absurd (Memᴰ.not-nil m)
own-only db label (h ∷ hs) s m passes only =
    tried (λ n. own-only db label hs s n passes (λ g n' t. only g (Memᴰ.tail n') t)) (Memᴰ.cases_cons m)
    (bears_own label (statement_of db h)) refl
  where
    tried : (s ∈ hs → some s ≡ sought_own db label hs) → (s ≡ h) ⊎ (s ∈ hs) → (t : Bool) → bears_own label (statement_of db h) ≡ t
        → some s ≡ pick (bears_own label (statement_of db h)) (some h) (sought_own db label hs)
    tried later w true e = pick_first _ e (ap some (sym (only h (Memᴰ.head refl) e)))
    tried later (inr n) false e = pick_second _ e (later n)
    tried later (inl q) false e = absurd (true-not-false (rw q at passes) e)

-- membership, as it is tested
listed-means : (xs : List ℕ) (x : ℕ) → among xs x ≡ true → x ∈ xs
unfolding among
listed-means xs x e = let w = any-witness (equal x) xs e in rw (equal-true _ _ w.2) w.1

unlisted-means : (xs : List ℕ) (x : ℕ) → among xs x ≡ false → x ∈ xs → ⊥
unfolding among
unlisted-means xs x e m = true-not-false (equal-yes refl) (any-member (equal x) xs e m)

-- the offset as it was read
pub listed-at-offset : (f : List ℕ) (h : ℕ) {at o : ℕ} {t : Bool} → t ≡ among (statement_at f at).hyps h → at ≡ o
    → t ≡ among (statement_at f o).hyps h
listed-at-offset f h e q = e ∙ ap (λ (x : ℕ). among (statement_at f x).hyps h) q

module _ (db : Database) (label : List ℕ) where
  sought-none : ((k : ℕ) → k < length db.statements → bears label (statement_of db k) ≡ false) → sought db label ≡ none
  unfolding sought statement_of
  sought-none fails = sym (first-none (bears label) 0 db.statements _ fails)

  sought-only : (s : ℕ) → s < length db.statements → bears label (statement_of db s) ≡ true
      → ((k : ℕ) → k < length db.statements → bears label (statement_of db k) ≡ true → k ≡ s) → sought db label ≡ some s
  unfolding sought statement_of
  sought-only s there passes only = sym (first-only (bears label) 0 db.statements _ s s (omega arith) there passes only)

module _ (db : Database) (facts : Facts db) (label : List ℕ) where
  -- a listed hypothesis is a statement
  listed-inside : (p h : ℕ) → p < length db.statements → h ∈ (statement_of db p).hyps → h < length db.statements
  listed-inside p h l m = let e = ((facts.statement p l).hyps_active h m).earlier in omega arith

  -- statement s has the label
  module _ (s : ℕ) (there : s < length db.statements) (is : (statement_of db s).label ≡ label) where
    only : (k : ℕ) → k < length db.statements → (statement_of db k).label ≡ label → k ≡ s
    only k l e = facts.labels_differ k s l there (e ∙ sym is)

    pub sought-it : is_essential (statement_of db s) ≡ false → sought db label ≡ some s
    sought-it other =
        sought-only db label s there (bears-yes label (statement_of db s) is other)
        (λ k l t. only k l (bears-label label (statement_of db k) t))

    pub sought-not : is_essential (statement_of db s) ≡ true → sought db label ≡ none
    sought-not own =
        sought-none db label
        (λ k l. refuted (λ t.
        let same-one = only k l (bears-label label (statement_of db k) t) in
        true-not-false own (rw same-one at (bears-other label (statement_of db k) t))))

    module _ (p : ℕ) (inside : p < length db.statements) where
      pub label-it : is_essential (statement_of db s) ≡ false → sought_label db p label ≡ some s
      unfolding sought_label or_else
      label-it other = rw (sought-it other) refl

      pub label-own : is_essential (statement_of db s) ≡ true → s ∈ (statement_of db p).hyps → sought_label db p label ≡ some s
      unfolding sought_label or_else
      label-own own m =
          rw (sought-not own)
          (sym (own-only db label _ s m (own-yes label (statement_of db s) is own)
          (λ h n t. only h (listed-inside p h inside n) (own-label label (statement_of db h) t))))

      pub label-unlisted : is_essential (statement_of db s) ≡ true → (s ∈ (statement_of db p).hyps → ⊥) → sought_label db p label ≡ none
      unfolding sought_label or_else
      label-unlisted own out =
          rw (sought-not own)
          (sym (own-none db label _
          (λ h n. refuted (λ t.
          let same-one = only h (listed-inside p h inside n) (own-label label (statement_of db h) t) in
          out (rw same-one at n)))))

  -- no statement has it
  module _ (absent : (k : ℕ) → k < length db.statements → (statement_of db k).label ≡ label → ⊥) where
    pub sought-absent : sought db label ≡ none
    sought-absent = sought-none db label (λ k l. refuted (λ t. absent k l (bears-label label (statement_of db k) t)))

    pub label-absent : (p : ℕ) → p < length db.statements → sought_label db p label ≡ none
    unfolding sought_label or_else
    label-absent p inside =
        rw sought-absent
        (sym (own-none db label _
        (λ h n. refuted (λ t. absent h (listed-inside p h inside n) (own-label label (statement_of db h) t)))))

-- the kind that the test tells
pub essential-kind : (st : Statement) → is_essential st ≡ false → st.kind ≡ 3 → ⊥
unfolding is_essential
essential-kind st e k = true-not-false (equal-yes k) e

module _ (f stmts label : List ℕ) where
  -- the statement that the search found
  module _ {r : FoundStatement} {s : StatementNo} (e : r ≡ Some s) (finds : FindsStatement f stmts label r) where
    found : FindsStatement f stmts label (Some s)
    found = subst (FindsStatement f stmts label) e finds

    module _ {syms : List ℕ} (w : Filed f syms stmts) where
      found-there : s.0 < length (database f).statements
      found-there = let n = filed-length w in let l = found.0 in omega arith

      found-is : statement_at f (get_or stmts s.0 0) ≡ statement_of (database f) s.0
      found-is = filed-statement w s.0 found-there

      found-label : (statement_of (database f) s.0).label ≡ label
      found-label = ap (λ (st : Statement). st.label) (sym found-is) ∙ found.1

      found-kind : {t : Bool} → is_essential (statement_at f (get_or stmts s.0 0)) ≡ t → is_essential (statement_of (database f) s.0) ≡ t
      found-kind k = ap is_essential (sym found-is) ∙ k

    pub named-found : is_essential (statement_at f (get_or stmts s.0 0)) ≡ false → FindsNamed f stmts label (Some s)
    unfolding statement_found
    named-found k =
        record { finds = λ syms w. sought-it (database f) (good-facts f w.good) label s.0 (found-there w) (found-label w) (found-kind w k) }

    pub named-essential : is_essential (statement_at f (get_or stmts s.0 0)) ≡ true → FindsNamed f stmts label None
    unfolding statement_found
    named-essential k =
        record { finds = λ syms w. sought-not (database f) (good-facts f w.good) label s.0 (found-there w) (found-label w) (found-kind w k) }

    module _ (p : ℕ) where
      -- it is no $e
      label-other : is_essential (statement_at f (get_or stmts s.0 0)) ≡ false → FindsLabel f stmts p label (Some s)
      unfolding statement_found
      label-other k =
          record {
            finds = λ syms w l. label-it (database f) (good-facts f w.good) label s.0 (found-there w) (found-label w) p l (found-kind w k);
            nameable = λ syms t w l q.
                let same-one : t ≡ s = cc in
                rw same-one (record { there = found-there w; own = λ n. absurd (essential-kind _ (found-kind w k) n) });
          }

      -- a $e, and whether p lists it
      listed_at : {syms : List ℕ} (w : Filed f syms stmts) → p < length (database f).statements → {t : Bool}
          → among (statement_at f (get_or stmts p 0)).hyps s.0 ≡ t → among (statement_of (database f) p).hyps s.0 ≡ t
      listed_at w l m = ap (λ (st : Statement). among st.hyps s.0) (sym (filed-statement w p l)) ∙ m

      label-listed : is_essential (statement_at f (get_or stmts s.0 0)) ≡ true → among (statement_at f (get_or stmts p 0)).hyps s.0 ≡ true
          → FindsLabel f stmts p label (Some s)
      unfolding statement_found
      label-listed k m =
          record {
            finds = λ syms w l.
                label-own (database f) (good-facts f w.good) label s.0 (found-there w) (found-label w) p l (found-kind w k)
                (listed-means _ _ (listed_at w l m));
            nameable = λ syms t w l q.
                let same-one : t ≡ s = cc in
                rw same-one (record { there = found-there w; own = λ n. listed-means _ _ (listed_at w l m) });
          }

      pub label-refused : may_name f stmts p s.0 ≡ false
          → FindsLabel f stmts p label None
      unfolding statement_found may_name
      label-refused t =
          let h = either-false _ _ t in
          record {
            finds = λ syms w l.
                label-unlisted (database f) (good-facts f w.good) label s.0 (found-there w) (found-label w) p l
                (found-kind w (no_false _ h.0)) (unlisted-means _ _ (listed_at w l h.1));
            nameable = λ syms t w l q. let z : ◌≡◌ {A = ℕ} 0 1 = cc in absurd (omega arith);
          }

      pub label-found : may_name f stmts p s.0 ≡ true
          → FindsLabel f stmts p label (Some s)
      unfolding may_name
      label-found t = tried (is_essential (statement_at f (get_or stmts s.0 0))) refl
        where
          second : {k m : Bool} → k ≡ true → either (no k) m ≡ true → m ≡ true
          second e h = either_second (no-of-true e) refl ∙ h

          tried : (k : Bool) → is_essential (statement_at f (get_or stmts s.0 0)) ≡ k → FindsLabel f stmts p label (Some s)
          tried true k = label-listed k (second k t)
          tried false k = label-other k

  -- it found none
  module _ {r : FoundStatement} (e : r ≡ None) (finds : FindsStatement f stmts label r) where
    none_has : {syms : List ℕ} → Filed f syms stmts → (k : ℕ) → k < length (database f).statements
        → (statement_of (database f) k).label ≡ label → ⊥
    unfolding database
    none_has w k l q =
        let unused : used f stmts label ≡ false = subst (FindsStatement f stmts label) e finds in
        unfound-statement f (index f) k label (let n = database-statements f in omega arith) (rw w.statements at unused) q

    pub named-absent : FindsNamed f stmts label None
    unfolding statement_found
    named-absent = record { finds = λ syms w. sought-absent (database f) (good-facts f w.good) label (none_has w) }

    pub label-nowhere : (p : ℕ) → FindsLabel f stmts p label None
    unfolding statement_found
    label-nowhere p =
        record {
          finds = λ syms w l. label-absent (database f) (good-facts f w.good) label (none_has w) p l;
          nameable = λ syms s w l q. let z : ◌≡◌ {A = ℕ} 0 1 = cc in absurd (omega arith);
        }
