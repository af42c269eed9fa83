-- The disjointness test by sets is the test by variables.
use Prim.Native.Nat.{ℕ, ◌≤◌}
use mathlib.Core.Path.{◌≡◌, refl, sym, ap, ap₂, ◌∙◌}
use mathlib.Core.Bool.{Bool, true, false, not}
use mathlib.Core.Logic.{◌⊎◌, inl, inr}
use mathlib.Core.List.Memᴰ
use mathlib.Core.List.{List, [], ◌∷◌}
use lib.ListN.{length}
use Rattle.book.specs.Book.{Substitution}
use Rattle.frames.specs.Logic.{equal, pick, both, all}
use Rattle.frames.specs.Database.{Statement, Database, database, statement_at}
use Rattle.frames.specs.Facts.{◌∈◌, statement_of}
use Rattle.frames.proofs.Chains.{equal-yes, equal-true, pick_first, pick_second, both_first, both-second}
use Rattle.frames.proofs.Tells.{both_true, all-member, any-witness, true-not-false}
use Rattle.bitset.specs.Sets.{member}
use Rattle.bitset.specs.Sets as bits
use Rattle.bitset.proofs.Listed.{listed-member, member-listed}
use Rattle.machine.specs.Ground.{is_variable, among, add_if, mandatory, mandatory_pairs, frame_pairs}
use Rattle.machine.specs.Apply.{disjoint, variables_of, disjoint_from, keeps}
use Rattle.machine.specs.Run.{members}
use Rattle.packed.specs.Images.{set_of, number_in, is_number, Numbers}
use Rattle.packed.specs.Lists.{Located}
use Rattle.variables.specs.Numbering.{floats_at}
use Rattle.resolve.specs.Filed.{Filed}
use Rattle.disjoint.specs.Disjoint.{Tabled, row_has, apart, keeps_at, Keeps}
use Rattle.disjoint.proofs.Numbers.{alike, all-each, any_of, all_same, among_in}
use Rattle.disjoint.proofs.Tabling.{tabled-disjoint}
use Rattle.disjoint.proofs.Mandatory.{located-statement, filed-mandatory}

-- the variables of a sequence are its symbols that are variables
added-here : (t : Bool) (s : ℕ) (vs : List ℕ) → t ≡ true → s ∈ add_if t s vs
unfolding add_if
added-here true s vs e = Memᴰ.head refl
added-here false s vs e = absurd (true-not-false e refl)

added-later : (t : Bool) (s : ℕ) (vs : List ℕ) {v : ℕ} → v ∈ vs → v ∈ add_if t s vs
unfolding add_if
added-later true s vs m = Memᴰ.tail m
added-later false s vs m = m

added-cases : (t : Bool) (s : ℕ) (vs : List ℕ) {v : ℕ} → v ∈ add_if t s vs → ((v ≡ s) × (t ≡ true)) ⊎ (v ∈ vs)
unfolding add_if
added-cases true s vs m = told (Memᴰ.cases_cons m)
  where
    told : {v : ℕ} → (v ≡ s) ⊎ (v ∈ vs) → ((v ≡ s) × (true ≡ true)) ⊎ (v ∈ vs)
    told (inl e) = inl (e, refl)
    told (inr n) = inr n
added-cases false s vs m = inr m

occurs-listed : (db : Database) {v : ℕ} (ss : List ℕ) → v ∈ ss → is_variable db v ≡ true → v ∈ variables_of db ss
unfolding variables_of
occurs-listed db [] m var = absurd (Memᴰ.not-nil m)
occurs-listed db {v} (s ∷ ss) m var = told (λ n. occurs-listed db ss n var) (Memᴰ.cases_cons m)
  where
    told : (v ∈ ss → v ∈ variables_of db ss) → (v ≡ s) ⊎ (v ∈ ss) → v ∈ add_if (is_variable db s) s (variables_of db ss)
    told later (inl e) = rw e (added-here (is_variable db s) s (variables_of db ss) (rw e at var))
    told later (inr n) = added-later (is_variable db s) s (variables_of db ss) (later n)

listed-occurs : (db : Database) {v : ℕ} (ss : List ℕ) → v ∈ variables_of db ss → (v ∈ ss) × (is_variable db v ≡ true)
unfolding variables_of
listed-occurs db [] m = absurd (Memᴰ.not-nil m)
listed-occurs db {v} (s ∷ ss) m = told (listed-occurs db ss) (added-cases (is_variable db s) s (variables_of db ss) m)
  where
    told : (v ∈ variables_of db ss → (v ∈ ss) × (is_variable db v ≡ true)) → ((v ≡ s) × (is_variable db s ≡ true)) ⊎ (v ∈ variables_of db ss)
        → (v ∈ (s ∷ ss)) × (is_variable db v ≡ true)
    told later (inl e) = (Memᴰ.head e.0, rw e.0 e.1)
    told later (inr n) = let w = later n in (Memᴰ.tail w.0, w.1)

module _ (db : Database) (vs : List ℕ) where
  -- a variable of the sequence has its number in the set
  has-number : {xs words : List ℕ} {v : ℕ} → Numbers db vs xs words → v ∈ variables_of db xs → number_in vs v ∈ bits.members words
  unfolding is_number both
  has-number {xs} {words} {v} n m =
      let w = listed-occurs db xs m in
      member-listed words (number_in vs v)
      (n.exactly (number_in vs v)
      ∙ any_of (is_number db vs (number_in vs v)) xs w.0 (rw w.1 (equal-yes refl)))

  -- a number of the set is that of a variable of the sequence
  has-variable : {xs words : List ℕ} {a : ℕ} → Numbers db vs xs words → a ∈ bits.members words
      → (v : ℕ) × (v ∈ variables_of db xs) × (number_in vs v ≡ a)
  unfolding is_number
  has-variable {xs} {words} {a} n m =
      let w = any-witness (is_number db vs a) xs (sym (n.exactly a) ∙ listed-member words a m) in
      let h = both_true (is_variable db w.0) (equal (number_in vs w.0) a) w.2 in
      (w.0, occurs-listed db xs w.1 h.0, equal-true (number_in vs w.0) a h.1)

  -- the test of two images by their sets
  pub apart-keeps : {pairs : List (ℕ × ℕ)} {table xs ys x y : List ℕ} → Tabled pairs vs table → ((v : ℕ) → v ∈ members pairs → v ∈ vs)
      → length vs ≤ 256 → Numbers db vs xs x → Numbers db vs ys y → ((v : ℕ) → v ∈ xs → is_variable db v ≡ true → v ∈ vs)
      → ((v : ℕ) → v ∈ ys → is_variable db v ≡ true → v ∈ vs)
      → apart table (bits.members x) (bits.members y) ≡ all (disjoint_from pairs (variables_of db ys)) (variables_of db xs)
  unfolding apart row_has disjoint_from
  apart-keeps {pairs} {table} {xs} {ys} {x} {y} t known few nx ny inx iny = alike _ _ there back
    where
      tells : (u v : ℕ) → u ∈ variables_of db xs → v ∈ variables_of db ys → member (set_of table (number_in vs u)) (number_in vs v) ≡ disjoint pairs u v
      tells u v m k =
          let p = listed-occurs db xs m in
          let q = listed-occurs db ys k in
          tabled-disjoint u v t known (inx u p.0 p.1) (iny v q.0 q.1) few

      there : apart table (bits.members x) (bits.members y) ≡ true → all (disjoint_from pairs (variables_of db ys)) (variables_of db xs) ≡ true
      there e =
          all-each _ (variables_of db xs)
          (λ u m. all-each (disjoint pairs u) (variables_of db ys)
          (λ v k. sym (tells u v m k)
          ∙ all-member (member (set_of table (number_in vs u))) (bits.members y)
          (all-member (row_has table (bits.members y)) (bits.members x) e (has-number nx m)) (has-number ny k)))

      back : all (disjoint_from pairs (variables_of db ys)) (variables_of db xs) ≡ true → apart table (bits.members x) (bits.members y) ≡ true
      back e =
          all-each _ (bits.members x)
          (λ a m. all-each (member (set_of table a)) (bits.members y)
          (λ b k.
          let u = has-variable nx m in
          let v = has-variable ny k in
          ap₂ (λ (i j : ℕ). member (set_of table i) j) (sym u.2) (sym v.2)
          ∙ (tells u.0 v.0 u.1 v.1
          ∙ all-member (disjoint pairs u.0) (variables_of db ys)
          (all-member (disjoint_from pairs (variables_of db ys)) (variables_of db xs) e u.1) v.1)))

all-added : (t : Bool) (p : ℕ × ℕ → Bool) (q : ℕ × ℕ) (qs : List (ℕ × ℕ)) → both (pick t (p q) true) (all p qs) ≡ all p (add_if t q qs)
unfolding all add_if both pick
all-added true p q qs = refl
all-added false p q qs = refl

-- a test of the mandatory pairs alone
mandatory-all : (ms : List ℕ) (p : ℕ × ℕ → Bool) (qs : List (ℕ × ℕ))
    → all (λ q. pick (both (among ms q.0) (among ms q.1)) (p q) true) qs ≡ all p (mandatory_pairs ms qs)
unfolding all mandatory_pairs
mandatory-all ms p [] = refl
mandatory-all ms p (q ∷ qs) =
    ap (both (pick (both (among ms q.0) (among ms q.1)) (p q) true)) (mandatory-all ms p qs)
    ∙ all-added (both (among ms q.0) (among ms q.1)) p q (mandatory_pairs ms qs)

-- the test of one pair: disjoint images, or both members mandatory, or not both
module _ (ms sets table : List ℕ) (l r : ℕ) where
  images : {answer : Bool} {x y : List ℕ} → x ≡ set_of sets l → y ≡ set_of sets r → answer ≡ apart table (bits.members x) (bits.members y)
      → answer ≡ apart table (bits.members (set_of sets l)) (bits.members (set_of sets r))
  images ex ey e = e ∙ ap₂ (λ (x y : List ℕ). apart table (bits.members x) (bits.members y)) ex ey

  pub pair-apart : {answer : Bool} {x y : List ℕ} → x ≡ set_of sets l → y ≡ set_of sets r → answer ≡ apart table (bits.members x) (bits.members y)
      → answer ≡ true → true ≡ keeps_at ms sets table (l, r)
  unfolding keeps_at pick
  pair-apart ex ey e holds = rw (sym (images ex ey e) ∙ holds) (tried (both (among ms l) (among ms r)))
    where
      tried : (t : Bool) → true ≡ pick t true true
      tried true = refl
      tried false = refl

  pub pair-both : {s t answer : Bool} {x y : List ℕ} → x ≡ set_of sets l → y ≡ set_of sets r → answer ≡ apart table (bits.members x) (bits.members y)
      → answer ≡ false → s ≡ among ms l → s ≡ true → t ≡ among ms r → t ≡ true → false ≡ keeps_at ms sets table (l, r)
  unfolding keeps_at
  pair-both ex ey e fails first holds second also =
      pick_first true (sym (both-second (sym first ∙ holds) (sym (sym second ∙ also)))) (sym fails ∙ images ex ey e)

  pub pair-not-right : {s t : Bool} → s ≡ among ms l → s ≡ true → t ≡ among ms r → t ≡ false → true ≡ keeps_at ms sets table (l, r)
  unfolding keeps_at
  pair-not-right first holds second fails = pick_second _ (sym (both-second (sym first ∙ holds) (sym (sym second ∙ fails)))) refl

  pub pair-second : {s t answer : Bool} {x y : List ℕ} → x ≡ set_of sets l → y ≡ set_of sets r → answer ≡ apart table (bits.members x) (bits.members y)
      → answer ≡ false → s ≡ among ms l → s ≡ true → t ≡ among ms r → not t ≡ keeps_at ms sets table (l, r)
  unfolding keeps_at
  pair-second {t = true} ex ey e fails first holds second =
      pick_first true (sym (both-second (sym first ∙ holds) second)) (sym fails ∙ images ex ey e)
  pair-second {t = false} ex ey e fails first holds second = pick_second _ (sym (both-second (sym first ∙ holds) second)) refl

  pub pair-not-left : {s : Bool} → s ≡ among ms l → s ≡ false → true ≡ keeps_at ms sets table (l, r)
  unfolding keeps_at
  pair-not-left first fails = pick_second _ (sym (both_first _ (sym first ∙ fails) refl)) refl

-- the test of every pair is that of the definition
pub keeps-told : (f stmts : List ℕ) (at : ℕ) (sets table : List ℕ) {r : Bool}
    → r ≡ all (keeps_at (floats_at f stmts (statement_at f at).hyps) sets table) (statement_at f at).pairs → Keeps f stmts at sets table r
unfolding keeps_at frame_pairs keeps pick
keeps-told f stmts at sets table {r} e = record { tells = told }
  where
    told : (syms : List ℕ) (a p : ℕ) (σ : Substitution) (vs : List ℕ) → Filed f syms stmts → Located f a at → length vs ≤ 256
        → Tabled (statement_of (database f) p).pairs vs table
        → ((v : ℕ) → v ∈ members (statement_of (database f) p).pairs → v ∈ vs)
        → ((v : ℕ) → v ∈ mandatory (database f) (statement_of (database f) a).hyps → Numbers (database f) vs (σ v) (set_of sets v))
        → ((v w : ℕ) → v ∈ mandatory (database f) (statement_of (database f) a).hyps → w ∈ σ v → is_variable (database f) w ≡ true → w ∈ vs)
        → r ≡ all (keeps (database f) (statement_of (database f) p).pairs σ) (frame_pairs (database f) (statement_of (database f) a))
    told syms a p σ vs filed loc few t known numbers inside =
        let db = database f in
        let ms = mandatory db (statement_of db a).hyps in
        let pairs = (statement_of db p).pairs in
        e
        ∙ ap₂ (λ (ns : List ℕ) (qs : List (ℕ × ℕ)). all (keeps_at ns sets table) qs) (filed-mandatory filed loc)
        (ap (λ (st : Statement). st.pairs) (sym (located-statement loc)))
        ∙ all_same (keeps_at ms sets table) (λ q. pick (both (among ms q.0) (among ms q.1)) (keeps db pairs σ q) true) (statement_of db a).pairs
        (λ q m. agrees q (both (among ms q.0) (among ms q.1)) refl)
        ∙ mandatory-all ms (keeps db pairs σ) (statement_of db a).pairs
      where
        agrees : (q : ℕ × ℕ) (s : Bool)
            → both (among (mandatory (database f) (statement_of (database f) a).hyps) q.0) (among (mandatory (database f) (statement_of (database f) a).hyps) q.1) ≡ s
            → pick s (apart table (bits.members (set_of sets q.0)) (bits.members (set_of sets q.1))) true
            ≡ pick s (keeps (database f) (statement_of (database f) p).pairs σ q) true
        agrees q false h = refl
        agrees q true h =
            let w = both_true _ _ h in
            let l = among_in _ q.0 w.0 in
            let k = among_in _ q.1 w.1 in
            apart-keeps (database f) vs t known few (numbers q.0 l) (numbers q.1 k) (λ v m. inside q.0 v l m) (λ v m. inside q.1 v k m)
