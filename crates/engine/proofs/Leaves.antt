-- A hypothesis that was made ready: the row of it stands for its expression, all of whose variables are numbered.
use Prim.Native.Nat.{ℕ, ◌+◌, ◌≤◌, ◌<◌}
use mathlib.Core.Path.{◌≡◌, refl, sym, ◌∙◌, ap}
use mathlib.Core.Bool.{Bool, true, false}
use mathlib.Core.Logic.{◌⊎◌, inl, inr}
use mathlib.Core.List.Memᴰ
use mathlib.Core.List.{List, [], ◌∷◌, ◌++◌, append-nil}
use native.Mathlib.Omega.{arith}
use lib.ListN.{length, get_or, drop}
use Rattle.bitset.specs.Sets.{size}
use Rattle.frames.specs.Logic.{equal, pick}
use Rattle.frames.specs.Database.{Database, database}
use Rattle.frames.specs.Facts.{◌∈◌, statement_of, floated, typecode, Facts}
use Rattle.frames.proofs.Chains.{equal-yes, equal-no, equal-true}
use Rattle.frames.proofs.Tells.{any-witness}
use Rattle.facts.proofs.GoodFacts.{good-facts}
use Rattle.machine.specs.Ground.{is_variable, is_float, expression, expression_of, among, mandatory}
use Rattle.machine.specs.Prepare.{numbered, numbered_by}
use Rattle.packed.specs.Packing.{packed}
use Rattle.packed.specs.Pool.{range}
use Rattle.packed.specs.Lists.{Indexed, Located}
use Rattle.packed.proofs.Lists.{var-is, located-symbols, located-defined}
use Rattle.variables.specs.Numbering.{Numbered}
use Rattle.resolve.specs.Resolve.{Supposable}
use Rattle.memory.specs.declared.table.Row.{Row}
use Rattle.memory.specs.Shown.{Means}
use Rattle.apply.proofs.Claims.{mandatory-there}
use Rattle.engine.specs.Ready.{LeafRow}
use Rattle.resolve.proofs.Filing.{located-statement}
use Rattle.engine.proofs.RawNumbers.{raw-numbers}

-- a number that is found stands in the list
among_there : (vs : List ℕ) (v : ℕ) → among vs v ≡ true → v ∈ vs
unfolding among
among_there vs v e = let w = any-witness (equal v) vs e in rw (equal-true v w.0 w.2) w.1

pub record Grows (vs : List ℕ) (v : ℕ) (vs' : List ℕ) : Type 0 where
  pub more : List ℕ
  pub is : vs' ≡ vs ++ more
  pub there : v ∈ vs'

pub numbered-grows : (vs : List ℕ) (v : ℕ) → Grows vs v (numbered vs v)
unfolding numbered pick
numbered-grows vs v = tried (among vs v) refl
  where
    tried : (t : Bool) → among vs v ≡ t → Grows vs v (pick (among vs v) vs (vs ++ (v ∷ [])))
    tried true e = rw e (record { more = []; is = sym (append-nil vs); there = among_there vs v e })
    tried false e = rw e (record { more = v ∷ []; is = refl; there = Memᴰ.append_right vs (Memᴰ.head refl) })

-- the variables of a $f or $e that may be supposed are numbered when it has been made ready
module _ (db : Database) (p h : ℕ) (facts : Facts db) (there : h < length db.statements) (asked : p < length db.statements)
    (may : Supposable db p h) (vs : List ℕ) (known : (v : ℕ) → v ∈ mandatory db (statement_of db p).hyps → v ∈ vs) where
  pub by-grows : (more : List ℕ) × (numbered_by (statement_of db h) vs ≡ vs ++ more)
  unfolding numbered_by pick
  by-grows = tried (is_float (statement_of db h)) refl
    where
      tried : (t : Bool) → is_float (statement_of db h) ≡ t → (more : List ℕ) × (pick (is_float (statement_of db h)) (numbered vs (floated (statement_of db h))) vs ≡ vs ++ more)
      tried true e = let g = numbered-grows vs (floated (statement_of db h)) in (g.more, rw e g.is)
      tried false e = ([], rw e (sym (append-nil vs)))

  float_known : (statement_of db h).kind ≡ 2 → (v : ℕ) → v ∈ (expression_of db h).symbols → v ∈ numbered_by (statement_of db h) vs
  unfolding numbered_by pick is_float expression_of expression floated
  float_known two v i =
      rw (equal-yes two)
      (one (statement_of db h).symbols ((facts.statement h there).float_symbols two) i (numbered-grows vs (get_or (statement_of db h).symbols 1 0)).there)
    where
      one : (xs : List ℕ) → length xs ≡ 2 → v ∈ drop 1 xs → get_or xs 1 0 ∈ numbered vs (get_or (statement_of db h).symbols 1 0) → v ∈ numbered vs (get_or (statement_of db h).symbols 1 0)
      one [] e j n = absurd (omega arith)
      one (x ∷ []) e j n = absurd (omega arith)
      one (x ∷ y ∷ []) e j n = only (Memᴰ.cases_cons j)
        where
          only : (v ≡ y) ⊎ (v ∈ []) → v ∈ numbered vs (get_or (statement_of db h).symbols 1 0)
          only (inl same) = rw same n
          only (inr k) = absurd (Memᴰ.not-nil k)
      one (x ∷ y ∷ z ∷ zs) e j n = absurd (omega arith)

  later : (xs : List ℕ) {v : ℕ} → v ∈ drop 1 xs → v ∈ xs
  later [] i = i
  later (x ∷ xs) i = Memᴰ.tail i

  essential-known : (statement_of db h).kind ≡ 3 → h ∈ (statement_of db p).hyps → (v : ℕ) → v ∈ (expression_of db h).symbols → is_variable db v ≡ true
      → v ∈ numbered_by (statement_of db h) vs
  unfolding numbered_by pick is_float is_variable expression_of expression
  essential-known three own v i var =
      let member = later (statement_of db h).symbols i in
      let given = (facts.statement p asked).essential_given h own three v member
      (record { defined = (facts.statement h there).symbols_defined v member; class = equal-true _ _ var }) in
      rw (equal-no (λ two. let z : ◌≡◌ {A = ℕ} 2 3 = sym two ∙ three in absurd (omega arith)))
      (known v (mandatory-there db (statement_of db p).hyps given.by v given.listed given.floats))

  pub leaf-known : (v : ℕ) → v ∈ (expression_of db h).symbols → is_variable db v ≡ true → v ∈ numbered_by (statement_of db h) vs
  leaf-known v i var = either-kind may.kind may.own
    where
      either-kind : ((statement_of db h).kind ≡ 2) ⊎ ((statement_of db h).kind ≡ 3) → ((statement_of db h).kind ≡ 2) ⊎ (h ∈ (statement_of db p).hyps)
          → v ∈ numbered_by (statement_of db h) vs
      either-kind (inl two) own = float_known two v i
      either-kind (inr three) (inl two) = float_known two v i
      either-kind (inr three) (inr own) = essential-known three own v i var

-- the row of a hypothesis stands for its expression
pub leaf-means : {f syms : List ℕ} {p h at : ℕ} {vs numbers pool : List ℕ} {count from to tag end : ℕ} {row : Row}
    → Indexed f syms → Located f h at → p < length (database f).statements → Supposable (database f) p h
    → ((v : ℕ) → v ∈ mandatory (database f) (statement_of (database f) p).hyps → v ∈ vs)
    → Numbered numbers count (numbered_by (statement_of (database f) h) vs) → count ≤ 256 → length (database f).symbols ≤ length numbers
    → LeafRow f syms numbers at from to tag end row → from ≤ to → range from to pool ≡ packed (database f) (expression_of (database f) h).symbols
    → Means (database f) (numbered_by (statement_of (database f) h) vs) pool to row (expression_of (database f) h)
unfolding expression_of expression size
leaf-means {f} {syms} {p} {h} {at} {vs} ix loc asked may known held few sized leaf rises text =
    let facts = good-facts f ix.good in
    let defined = located-defined loc ix.good in
    let numbered = leaf-known (database f) p h facts loc.there asked may vs known in
    let symbols_few = facts.symbol-count in
    let counted = held.counts in
    record {
      typecode = leaf.head ∙ ap typecode (sym (located-statement loc));
      rises = rw (leaf.from_is, leaf.to_is) rises;
      within = let e = leaf.to_is in omega arith;
      symbols = rw (leaf.from_is, leaf.to_is) text;
      defined = defined;
      known = numbered;
      numbers =
          raw-numbers (database f) f syms _ _ _ held (expression_of (database f) h).symbols (λ s i. var-is ix s (defined.defined s i))
          (λ s i var. let d = defined.defined s i in omega arith) numbered (omega arith) (let z = leaf.sized in omega arith) (rw (located-symbols loc) at leaf.vars);
    }
