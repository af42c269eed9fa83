-- The hypotheses one after another: the definition's tests that are left, and the images that the table has so far.
use Rattle.std.proofs.Common.{Ok, Err}
use Prim.Native.Nat.{ℕ, zero, suc, ◌+◌, ◌*◌, ◌≤◌, ◌<◌, ◌%◌}
use mathlib.Core.Path.{◌≡◌, refl, sym, ◌∙◌, ap}
use mathlib.Core.Bool.{Bool, true, false}
use mathlib.Core.Logic.{◌⊎◌, inl, inr}
use mathlib.Core.List.Memᴰ
use mathlib.Core.List.{List, [], ◌∷◌, ◌++◌, cons-ne-nil}
use native.Mathlib.Omega.{arith}
use lib.ListN.{length, get_or, set, take, drop, drop_of_length-le, take-append-drop}
use lib.Seq.{get_or-set_same, get_or-set_other, drop-cons, take_all}
use Rattle.book.specs.Book.{Expression, Substitution, substituted}
use Rattle.frames.specs.Logic.{equal, pick, both, no, same}
use Rattle.frames.specs.Database.{Database, database, statement_at}
use Rattle.frames.specs.Facts.{◌∈◌, statement_of, floated, typecode, StatementFacts, Facts}
use Rattle.frames.proofs.Chains.{equal-yes, equal-no, equal-true, equal-false}
use Rattle.facts.proofs.GoodFacts.{good-facts}
use Rattle.facts.proofs.InOrder.{essential-ready, float-new}
use Rattle.machine.specs.declared.Refusal.{Refusal}
use Rattle.machine.specs.declared.Refusal.TheVariants.{StepFloatWrongType, StepEssenWrongType, StepEssenWrong}
use Rattle.machine.specs.Chain.{Result, unless}
use Rattle.machine.specs.Ground.{is_variable, is_float, expression, expression_of, add_if, mandatory}
use Rattle.machine.specs.Memory.{Proved, Memory}
use Rattle.machine.specs.Apply.{bound, check_hyp, check_hyps}
use Rattle.machine.proofs.Bound.{Paired, here, there, float-image, float-kind}
use Rattle.packed.specs.Pool.{image}
use Rattle.packed.specs.Images.{store_set}
use Rattle.packed.specs.Lists.{Indexed, Located, Shows}
use Rattle.packed.proofs.Imaging.{stored_same, stored_other}
use Rattle.packed.proofs.Written.{take-one-more}
use Rattle.resolve.proofs.Filing.{located-statement, filed-indexed, filed-located}
use Rattle.memory.specs.declared.table.Row.{Row}
use Rattle.memory.specs.Table.{RowAt}
use Rattle.memory.specs.Shown.{Along, ends, next, Means}
use Rattle.memory.proofs.Tables.{row-four, row_one}
use Rattle.machine.specs.Passed.{Passed}
use Rattle.apply.specs.Hyps.{Ranged, BindsFloat, ChecksEssential, ProcessesHyp, processed, ImageShown, SeatMeans, Seated, ProcessesHyps, SeatRow, Clamped}

-- the member at j, with what is shown of it
pub record At {A : Type 0} (P : ℕ → A → Type 0) (k : ℕ) (xs : List A) (j : ℕ) : Type 0 where
  pub it : A
  pub here : drop j xs ≡ it ∷ drop (suc j) xs
  pub shown : P (k + j) it

pub along-at : {A : Type 0} {P : ℕ → A → Type 0} {k : ℕ} {xs : List A} (j : ℕ) → j < length xs → Along P k xs → At P k xs j
along-at j few ends = absurd (omega arith)
along-at {k = k} zero few (next {x = x} e p a) =
    let same : k ≡ k + 0 = omega arith in record { it = x; here = refl; shown = rw same at p }
along-at {k = k} (suc j) few (next {n = n} e p a) =
    let r = along-at j (omega arith) a in
    let same : n + j ≡ k + suc j = omega arith in
    record { it = r.it; here = r.here; shown = rw same at r.shown }

-- two lists at one position
paired-here : {A : Type 0} {h : ℕ} {x : A} (j : ℕ) (hs : List ℕ) (xs : List A) {gs : List ℕ} {ys : List A} → drop j hs ≡ h ∷ gs → drop j xs ≡ x ∷ ys → Paired h x hs xs
paired-here zero [] xs e f = absurd (cons-ne-nil _ _ (sym e))
paired-here zero (g ∷ gs) [] e f = absurd (cons-ne-nil _ _ (sym f))
paired-here {h = h} {x = x} zero (g ∷ gs) (y ∷ ys) e f =
    let one : g ≡ h = ap (λ (l : List ℕ). get_or l 0 0) e in
    let two : y ≡ x = ap (λ l. get_or l 0 y) f in
    rw (one, two) here
paired-here (suc j) [] xs e f = absurd (cons-ne-nil _ _ (sym e))
paired-here (suc j) (g ∷ gs) [] e f = absurd (cons-ne-nil _ _ (sym f))
paired-here (suc j) (g ∷ gs) (y ∷ ys) e f = there (paired-here j gs ys e f)

-- the row in a seat
pub seat-read : {stack : List ℕ} {base : ℕ} {seats : List ℕ} {j used i k : ℕ} {row now : Row} → i ≡ get_or seats j 0 → k ≡ base + i % 64 → RowAt stack k row → Clamped row used now
    → SeatRow stack base seats j used now
seat-read {stack} {base} {seats} {j} {used} {i} {k} {row} {now} e f at c =
    record {
      rises = c.rises;
      within = c.within;
      is = λ r few there low high.
          let same_row : k ≡ base + get_or seats j 0 = omega arith in
          let one : row ≡ r = row_one at (rw (sym same_row) at there) in
          c.is (rw (sym one) at low) (rw (sym one) at high) ∙ one;
    }

-- one hypothesis with its entry, where the table shows the substitution for the symbols of a $e
module _ {f syms : List ℕ} {at h : ℕ} {vs pool : List ℕ} {used : ℕ} {row : Row} {e : Expression} {froms tos sets froms' tos' sets' : List ℕ} {answer : Passed}
    (ix : Indexed f syms) (loc : Located f h at) (means : Means (database f) vs pool used row e)
    (p : ProcessesHyp f syms at row froms tos sets pool froms' tos' sets' answer) (σ : Substitution) (rest : Result Memory) where
  code_is : equal e.typecode (expression_of (database f) h).typecode ≡ equal row.head (typecode (statement_at f at))
  unfolding expression_of expression
  code_is = rw (sym means.typecode, located-statement loc) refl

  float-checked : (statement_of (database f) h).kind ≡ 2 → check_hyp (database f) σ (statement_of (database f) h) e rest ≡ processed answer rest
  unfolding check_hyp unless pick both no processed is_float expression_of expression
  float-checked two =
      let b = p.float (sym (ap (λ (st : Rattle.frames.specs.Database.Statement). st.kind) (located-statement loc)) ∙ two) in
      rw (equal-yes two, b.answers) (rw code_is (tried (equal row.head (typecode (statement_at f at)))))
    where
      tried : (t : Bool) → unless (no t) StepFloatWrongType (unless false StepEssenWrong rest) ≡ processed (pick t (Ok tt) (Err StepFloatWrongType)) rest
      tried true = refl
      tried false = refl

  essential-checked : ((statement_of (database f) h).kind ≡ 2 → ⊥) → Shows (database f) froms tos pool σ (expression_of (database f) h).symbols
      → check_hyp (database f) σ (statement_of (database f) h) e rest ≡ processed answer rest
  unfolding check_hyp unless pick both no processed is_float expression_of expression
  essential-checked not-two shows =
      let c = (p.essential (λ q. not-two (ap (λ (st : Rattle.frames.specs.Database.Statement). st.kind) (located-statement loc) ∙ q))).0 in
      rw (equal-no not-two, code_is) (tried (equal row.head (typecode (statement_at f at))) refl c)
    where
      tried : (t : Bool) → equal row.head (typecode (statement_at f at)) ≡ t → ChecksEssential f syms at row froms tos pool answer
          → unless (no t) StepEssenWrongType (unless (no (same e.symbols (substituted (is_variable (database f)) σ (expression_of (database f) h).symbols))) StepEssenWrong rest) ≡ processed answer rest
      tried false q c = rw (c.other q) refl
      tried true q c =
          let w = c.alike q in
          let told = w.1.tells h σ e.symbols ix loc shows means.defined means.symbols in
          rw (w.2, told) (settled (same e.symbols (substituted (is_variable (database f)) σ (expression_of (database f) h).symbols)))
        where
          settled : (u : Bool) → unless (no u) StepEssenWrong rest ≡ processed (pick u (Ok tt) (Err StepEssenWrong)) rest
          settled true = refl
          settled false = refl

means-of : {db : Database} {vs pool : List ℕ} {used : ℕ} {r r' : Row} {e : Expression} → r ≡ r' → Means db vs pool used r' e → Means db vs pool used r e
means-of q m = rw q m

-- another variable's image stays when one is bound
image-kept : {db : Database} {vs pool : List ℕ} {used : ℕ} {froms tos sets : List ℕ} (v from to : ℕ) (ws : List ℕ) (w : ℕ) {ys : List ℕ} → (w ≡ v → ⊥)
    → ImageShown db vs pool used froms tos sets w ys → ImageShown db vs pool used (set froms v from) (set tos v to) (store_set sets v ws) w ys
unfolding image
image-kept {froms = froms} {tos} {sets} v from to ws w n i =
    let a = get_or-set_other froms v w from 0 n in
    let b = get_or-set_other tos v w to 0 n in
    record {
      rises = rw (a, b) i.rises;
      within = rw b i.within;
      text = rw (a, b) i.text;
      defined = i.defined;
      known = i.known;
      numbers = rw (stored_other sets v w ws n) i.numbers;
    }

-- the variable that is bound has its image
image-new : {db : Database} {vs pool : List ℕ} {used : ℕ} {row : Row} {e : Expression} (froms tos sets : List ℕ) (v : ℕ) → v < length froms → v < length tos → 4 * v + 3 < length sets
    → length row.vars.words ≡ 4 → Means db vs pool used row e
    → ImageShown db vs pool used (set froms v row.from) (set tos v row.to) (store_set sets v row.vars.words) v e.symbols
unfolding image
image-new {row = row} froms tos sets v a b c four m =
    let p = get_or-set_same froms v row.from 0 a in
    let q = get_or-set_same tos v row.to 0 b in
    record {
      rises = rw (p, q) m.rises;
      within = rw q m.within;
      text = rw (p, q) m.symbols;
      defined = m.defined;
      known = m.known;
      numbers = rw (stored_same sets v row.vars.words four c) m.numbers;
    }

-- a mandatory variable is that of a listed $f
mandatory-float : (db : Database) (P : ℕ → Type 0) (hs : List ℕ) → ((h : ℕ) → h ∈ hs → is_float (statement_of db h) ≡ true → P (floated (statement_of db h))) → (v : ℕ) → v ∈ mandatory db hs → P v
unfolding mandatory add_if
mandatory-float db P [] each v i = absurd (Memᴰ.not-nil i)
mandatory-float db P (h ∷ hs) each v i = found (is_float (statement_of db h)) refl (mandatory-float db P hs (λ g m. each g (Memᴰ.tail m)) v) i
  where
    first : (v ≡ floated (statement_of db h)) ⊎ (v ∈ mandatory db hs) → is_float (statement_of db h) ≡ true → (v ∈ mandatory db hs → P v) → P v
    first (inl same-one) e later = rw same-one (each h (Memᴰ.head refl) e)
    first (inr m) e later = later m

    found : (t : Bool) → is_float (statement_of db h) ≡ t → (v ∈ mandatory db hs → P v) → v ∈ add_if (is_float (statement_of db h)) (floated (statement_of db h)) (mandatory db hs) → P v
    found true e later m = first (Memᴰ.cases_cons (rw e at m)) e later
    found false e later m = later (rw e at m)

-- so far: the tests that are left are the tests of the whole, and the table has the images of the $f that are done
pub record Processing (f syms stmts : List ℕ) (at : ℕ) (stack : List ℕ) (base : ℕ) (seats : List ℕ) (used : ℕ) (froms₀ tos₀ sets₀ pool : List ℕ) (j : ℕ) (froms tos sets : List ℕ) : Type 0 where
  pub ranged : Ranged froms tos used
  pub froms_sized : length froms ≡ length froms₀
  pub tos_sized : length tos ≡ length tos₀
  pub sets_sized : length sets ≡ length sets₀
  pub left : (a : ℕ) (xs : List Proved) (vs : List ℕ) → Seated f syms stmts at stack base seats used pool a xs vs
      → length (database f).symbols ≤ length froms₀ → length (database f).symbols ≤ length tos₀ → 4 * length (database f).symbols ≤ length sets₀ → (rest : Result Memory)
      → check_hyps (database f) (bound (database f) (statement_of (database f) a).hyps xs) (drop j (statement_of (database f) a).hyps) (drop j xs) rest
      ≡ check_hyps (database f) (bound (database f) (statement_of (database f) a).hyps xs) (statement_of (database f) a).hyps xs rest
  pub images : (a : ℕ) (xs : List Proved) (vs : List ℕ) → Seated f syms stmts at stack base seats used pool a xs vs
      → length (database f).symbols ≤ length froms₀ → length (database f).symbols ≤ length tos₀ → 4 * length (database f).symbols ≤ length sets₀ → (g : ℕ) → g ∈ take j (statement_of (database f) a).hyps
      → is_float (statement_of (database f) g) ≡ true
      → ImageShown (database f) vs pool used froms tos sets (floated (statement_of (database f) g))
      (bound (database f) (statement_of (database f) a).hyps xs (floated (statement_of (database f) g)))

pub processing-none : {f syms stmts : List ℕ} {at : ℕ} {stack : List ℕ} {base : ℕ} {seats : List ℕ} {used : ℕ} (froms tos sets pool : List ℕ) → Ranged froms tos used
    → Processing f syms stmts at stack base seats used froms tos sets pool 0 froms tos sets
processing-none froms tos sets pool r =
    record {
      ranged = r;
      froms_sized = refl;
      tos_sized = refl;
      sets_sized = refl;
      left = λ a xs vs s x y z rest. refl;
      images = λ a xs vs s x y z g m is. absurd (Memᴰ.not-nil m);
    }

module _ {f syms stmts : List ℕ} {at : ℕ} {stack : List ℕ} {base : ℕ} {seats : List ℕ} {used : ℕ} {froms₀ tos₀ sets₀ pool : List ℕ} {j : ℕ} {froms tos sets : List ℕ}
    (inv : Processing f syms stmts at stack base seats used froms₀ tos₀ sets₀ pool j froms tos sets) where
  -- at hypothesis j
  module _ {h o : ℕ} {row : Row} {froms' tos' sets' : List ℕ} {answer : Passed} (few : j < length (statement_at f at).hyps) (h-is : h ≡ get_or (statement_at f at).hyps j 0)
      (o_is : o ≡ get_or stmts h 0) (seat : SeatRow stack base seats j used row) (p : ProcessesHyp f syms o row froms tos sets pool froms' tos' sets' answer) where
    module _ (a : ℕ) (xs : List Proved) (vs : List ℕ) (s : Seated f syms stmts at stack base seats used pool a xs vs)
        (x : length (database f).symbols ≤ length froms₀) (y : length (database f).symbols ≤ length tos₀) (z : 4 * length (database f).symbols ≤ length sets₀) where
      db : Database
      db = database f

      hs : List ℕ
      hs = (statement_of (database f) a).hyps

      σ : Substitution
      σ = bound (database f) (statement_of (database f) a).hyps xs

      hs-is : (statement_at f at).hyps ≡ (statement_of (database f) a).hyps
      hs-is = ap (λ (st : Rattle.frames.specs.Database.Statement). st.hyps) (sym (located-statement s.located))

      facts : StatementFacts (database f) a (statement_of (database f) a)
      facts = (good-facts f s.filed.good).statement a s.located.there

      within : j < length (statement_of (database f) a).hyps
      within = rw hs-is at few

      hyp-here : drop j (statement_of (database f) a).hyps ≡ h ∷ drop (suc j) (statement_of (database f) a).hyps
      hyp-here = drop-cons (statement_of (database f) a).hyps j 0 within ∙ ap (λ (k : ℕ). k ∷ drop (suc j) (statement_of (database f) a).hyps) (sym (rw hs-is at h-is))

      split : (statement_of (database f) a).hyps ≡ take j (statement_of (database f) a).hyps ++ (h ∷ drop (suc j) (statement_of (database f) a).hyps)
      split = sym (take-append-drop j (statement_of (database f) a).hyps) ∙ ap (λ (l : List ℕ). take j (statement_of (database f) a).hyps ++ l) hyp-here

      listed : h ∈ (statement_of (database f) a).hyps
      listed = rw split (Memᴰ.append_right (take j (statement_of (database f) a).hyps) (Memᴰ.head refl))

      there' : h < length (database f).statements
      there' = let e = (facts.hyps_active h listed).earlier in let t = s.located.there in omega arith

      loc : Located f h o
      loc = rw o_is (filed-located s.filed h there')

      x-at : At (SeatMeans (database f) vs pool used stack base seats) 0 xs j
      x-at = along-at j (let m = s.many in let w = within in omega arith) s.shown

      seat-means : SeatMeans (database f) vs pool used stack base seats j x-at.it
      seat-means = let e : 0 + j ≡ j = omega arith in rw e at x-at.shown

      means : Means (database f) vs pool used row x-at.it.expression
      means =
          let w = seat-means in
          means-of (seat.is w.row w.few w.at w.means.rises w.means.within) w.means

      -- the table shows the substitution for the symbols of a $e
      shows : ((statement_of (database f) h).kind ≡ 2 → ⊥) → Shows (database f) froms tos pool (bound (database f) (statement_of (database f) a).hyps xs) (expression_of (database f) h).symbols
      unfolding is_variable is_float expression_of expression
      shows not-two =
          record {
            shows = λ v m var. (shown-for v m var).text;
            defined = λ v m var. (shown-for v m var).defined;
          }
        where
          three : ((statement_of (database f) h).kind ≡ 2) ⊎ ((statement_of (database f) h).kind ≡ 3) → (statement_of (database f) h).kind ≡ 3
          three (inl q) = absurd (not-two q)
          three (inr q) = q

          later : (ys : List ℕ) {v : ℕ} → v ∈ drop 1 ys → v ∈ ys
          later [] m = m
          later (y ∷ ys) m = Memᴰ.tail m

          shown-for : (v : ℕ) → v ∈ drop 1 (statement_of (database f) h).symbols → equal (Rattle.frames.specs.Facts.symbol_of (database f) v).class 1 ≡ true
              → ImageShown (database f) vs pool used froms tos sets v (bound (database f) (statement_of (database f) a).hyps xs v)
          shown-for v m var =
              let member = later (statement_of (database f) h).symbols m in
              let defined = ((good-facts f s.filed.good).statement h there').symbols_defined v member in
              let w = essential-ready (database f) a facts (take j (statement_of (database f) a).hyps) (drop (suc j) (statement_of (database f) a).hyps) h split
              (three (facts.hyps_active h listed).kind) v member (record { defined = defined; class = equal-true _ _ var }) in
              rw w.2.variable at (inv.images a xs vs s x y z w.0 w.1 (equal-yes w.2.kind))

      -- the test of hypothesis j
      tested : (rest : Result Memory) → check_hyp (database f) (bound (database f) (statement_of (database f) a).hyps xs) (statement_of (database f) h) x-at.it.expression rest ≡ processed answer rest
      tested rest = by_kind (equal (statement_of (database f) h).kind 2) refl
        where
          by_kind : (t : Bool) → equal (statement_of (database f) h).kind 2 ≡ t
              → check_hyp (database f) (bound (database f) (statement_of (database f) a).hyps xs) (statement_of (database f) h) x-at.it.expression rest ≡ processed answer rest
          by_kind true q = float-checked (filed-indexed s.filed) loc means p (bound (database f) (statement_of (database f) a).hyps xs) rest (equal-true _ _ q)
          by_kind false q = essential-checked (filed-indexed s.filed) loc means p (bound (database f) (statement_of (database f) a).hyps xs) rest (equal-false _ _ q) (shows (equal-false _ _ q))

      -- the tests from hypothesis j on
      unrolled : (rest : Result Memory) → check_hyps (database f) (bound (database f) (statement_of (database f) a).hyps xs) (statement_of (database f) a).hyps xs rest
          ≡ processed answer (check_hyps (database f) (bound (database f) (statement_of (database f) a).hyps xs) (drop (suc j) (statement_of (database f) a).hyps) (drop (suc j) xs) rest)
      unfolding check_hyps
      unrolled rest =
          sym (inv.left a xs vs s x y z rest) ∙ rw (hyp-here, x-at.here) (tested _)

      kind-read : (statement_at f o).kind ≡ (statement_of (database f) h).kind
      kind-read = ap (λ (st : Rattle.frames.specs.Database.Statement). st.kind) (sym (located-statement loc))

      floated-few : (statement_of (database f) h).kind ≡ 2 → floated (statement_of (database f) h) < length (database f).symbols
      floated-few two = (((good-facts f s.filed.good).statement h there').float_variable two).defined

      -- where the answer is fine, the variable of a $f is bound
      bound-tables : answer ≡ (Ok tt) → (statement_of (database f) h).kind ≡ 2
          → (froms' ≡ set froms (floated (statement_of (database f) h)) row.from) × ((tos' ≡ set tos (floated (statement_of (database f) h)) row.to) × (sets' ≡ store_set sets (floated (statement_of (database f) h)) row.vars.words))
      unfolding pick
      bound-tables fine two = tried (equal row.head (typecode (statement_at f o))) refl (p.float (kind-read ∙ two))
        where
          small : floated (statement_at f o) % 65536 ≡ floated (statement_of (database f) h)
          small =
              let few = floated-few two in
              let count = (good-facts f s.filed.good).symbol-count in
              let same-one : floated (statement_at f o) ≡ floated (statement_of (database f) h) = ap floated (sym (located-statement loc)) in
              omega arith

          tried : (t : Bool) → equal row.head (typecode (statement_at f o)) ≡ t → BindsFloat f o row froms tos sets froms' tos' sets' answer
              → (froms' ≡ set froms (floated (statement_of (database f) h)) row.from) × ((tos' ≡ set tos (floated (statement_of (database f) h)) row.to) × (sets' ≡ store_set sets (floated (statement_of (database f) h)) row.vars.words))
          tried true q b = (rw (q, small) at b.froms_is, (rw (q, small) at b.tos_is, rw (q, small) at b.sets_is))
          tried false q b =
              let refused : answer ≡ Err StepFloatWrongType = rw q at b.answers in
              let z : ◌≡◌ {A = ℕ} 0 1 = cc in
              absurd (omega arith)

      -- the images that the table has then
      images-now : answer ≡ (Ok tt) → (g : ℕ) → g ∈ take (j + 1) (statement_of (database f) a).hyps → is_float (statement_of (database f) g) ≡ true
          → ImageShown (database f) vs pool used froms' tos' sets' (floated (statement_of (database f) g)) (bound (database f) (statement_of (database f) a).hyps xs (floated (statement_of (database f) g)))
      images-now fine g m is = by_kind (equal (statement_of (database f) h).kind 2) refl
        where
          which : (g ∈ take j (statement_of (database f) a).hyps) ⊎ (g ≡ h)
          which = sorted (Memᴰ.append_cases (take j (statement_of (database f) a).hyps) (rw (take-one-more (statement_of (database f) a).hyps j within) at m))
            where
              only : (g ≡ get_or (statement_of (database f) a).hyps j 0) ⊎ (g ∈ []) → (g ∈ take j (statement_of (database f) a).hyps) ⊎ (g ≡ h)
              only (inl e) = inr (e ∙ sym (rw hs-is at h-is))
              only (inr n) = absurd (Memᴰ.not-nil n)

              sorted : (g ∈ take j (statement_of (database f) a).hyps) ⊎ (g ∈ (get_or (statement_of (database f) a).hyps j 0 ∷ [])) → (g ∈ take j (statement_of (database f) a).hyps) ⊎ (g ≡ h)
              sorted (inl i) = inl i
              sorted (inr n) = only (Memᴰ.cases_cons n)

          float : (statement_of (database f) h).kind ≡ 2 → (g ∈ take j (statement_of (database f) a).hyps) ⊎ (g ≡ h)
              → ImageShown (database f) vs pool used froms' tos' sets' (floated (statement_of (database f) g)) (bound (database f) (statement_of (database f) a).hyps xs (floated (statement_of (database f) g)))
          float two (inl i) =
              let now = bound-tables fine two in
              rw (now.0, now.1.0, now.1.1)
              (image-kept (floated (statement_of (database f) h)) row.from row.to row.vars.words (floated (statement_of (database f) g))
              (λ e. float-new (database f) a facts (take j (statement_of (database f) a).hyps) (drop (suc j) (statement_of (database f) a).hyps) h split (floated (statement_of (database f) h))
              (record { kind = two; variable = refl }) g i (record { kind = float-kind _ is; variable = e }))
              (inv.images a xs vs s x y z g i is))
          float two (inr e) =
              let now = bound-tables fine two in
              let few = floated-few two in
              let one = inv.froms_sized in
              let other = inv.tos_sized in
              let third = inv.sets_sized in
              let w = seat-means in
              let row_is = seat.is w.row w.few w.at w.means.rises w.means.within in
              rw (e, now.0, now.1.0, now.1.1, float-image (database f) a facts (paired-here j (statement_of (database f) a).hyps xs hyp-here x-at.here) (rw e at is))
              (image-new froms tos sets (floated (statement_of (database f) h)) (omega arith) (omega arith) (omega arith) (ap (λ (r : Row). length r.vars.words) row_is ∙ row-four w.at) means)

          by_kind : (t : Bool) → equal (statement_of (database f) h).kind 2 ≡ t
              → ImageShown (database f) vs pool used froms' tos' sets' (floated (statement_of (database f) g)) (bound (database f) (statement_of (database f) a).hyps xs (floated (statement_of (database f) g)))
          by_kind true q = float (equal-true _ _ q) which
          by_kind false q = other which
            where
              other : (g ∈ take j (statement_of (database f) a).hyps) ⊎ (g ≡ h)
                  → ImageShown (database f) vs pool used froms' tos' sets' (floated (statement_of (database f) g)) (bound (database f) (statement_of (database f) a).hyps xs (floated (statement_of (database f) g)))
              other (inl i) =
                  let now = (p.essential (λ two. equal-false _ _ q (sym kind-read ∙ two))).1 in
                  rw (now.0, now.1.0, now.1.1) (inv.images a xs vs s x y z g i is)
              other (inr e) = absurd (equal-false _ _ q (rw e at (float-kind _ is)))

    -- it is fine: one more is done
    pub processing-more : answer ≡ (Ok tt)
        → Processing f syms stmts at stack base seats used froms₀ tos₀ sets₀ pool (j + 1) froms' tos' sets'
    unfolding processed
    processing-more fine =
        record {
          ranged = p.ranged used inv.ranged seat.within;
          froms_sized = p.froms_sized ∙ inv.froms_sized;
          tos_sized = p.tos_sized ∙ inv.tos_sized;
          sets_sized = p.sets_sized ∙ inv.sets_sized;
          left = λ a xs vs s x y z rest. let e : j + 1 ≡ suc j = omega arith in sym (rw (fine, sym e) at (unrolled a xs vs s x y z rest));
          images = λ a xs vs s x y z. images-now a xs vs s x y z fine;
        }

    -- it is refused
    pub processing-stop : {why : Refusal} → answer ≡ Err why
        → ProcessesHyps f syms stmts at stack base seats used froms₀ tos₀ sets₀ pool froms' tos' sets' (Err why)
    unfolding processed
    processing-stop is =
        record {
          ranged = p.ranged used inv.ranged seat.within;
          froms_sized = p.froms_sized ∙ inv.froms_sized;
          tos_sized = p.tos_sized ∙ inv.tos_sized;
          sets_sized = p.sets_sized ∙ inv.sets_sized;
          checks = λ a xs vs rest s x y z. rw is at (unrolled a xs vs s x y z rest);
          images = λ a xs vs s x y z e v m. let q : ◌≡◌ {A = ℕ} 0 1 = cc in absurd (omega arith);
        }

  -- all are done
  pub processing-done : length (statement_at f at).hyps ≤ j → ProcessesHyps f syms stmts at stack base seats used froms₀ tos₀ sets₀ pool froms tos sets (Ok tt)
  unfolding processed check_hyps
  processing-done all_done =
      record {
        ranged = inv.ranged;
        froms_sized = inv.froms_sized;
        tos_sized = inv.tos_sized;
        sets_sized = inv.sets_sized;
        checks = λ a xs vs rest s x y z.
            let n = many a xs vs s in
            sym (inv.left a xs vs s x y z rest) ∙ rw (drop_of_length-le (statement_of (database f) a).hyps n.0, drop_of_length-le xs n.1) refl;
        images = λ a xs vs s x y z e v m.
            mandatory-float (database f) (λ w. ImageShown (database f) vs pool used froms tos sets w (bound (database f) (statement_of (database f) a).hyps xs w)) (statement_of (database f) a).hyps
            (λ h i is. inv.images a xs vs s x y z h (rw (take_all j (statement_of (database f) a).hyps (many a xs vs s).0) i) is) v m;
      }
    where
      many : (a : ℕ) (xs : List Proved) (vs : List ℕ) → Seated f syms stmts at stack base seats used pool a xs vs → (length (statement_of (database f) a).hyps ≤ j) × (length xs ≤ j)
      many a xs vs s =
          let e : length (statement_at f at).hyps ≡ length (statement_of (database f) a).hyps = ap (λ (st : Rattle.frames.specs.Database.Statement). length st.hyps) (sym (located-statement s.located)) in
          let c = s.many in
          (omega arith, omega arith)
