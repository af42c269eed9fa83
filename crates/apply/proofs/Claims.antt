-- The claim of an assertion as substituted: its variables have images, and its row stands for it.
use Rattle.std.proofs.Common.{Some, None, Err}
use Prim.Native.Nat.{ℕ, ◌+◌, ◌-◌, ◌≤◌, ◌<◌}
use mathlib.Core.Path.{◌≡◌, refl, sym, ◌∙◌, ap}
use mathlib.Core.Bool.{Bool, true, false}
use mathlib.Core.Logic.{◌⊎◌, inl, inr}
use mathlib.Core.List.Memᴰ
use mathlib.Core.List.{List, [], ◌∷◌, append-nil}
use native.Mathlib.Omega.{arith}
use lib.ListN.{length, drop}
use Rattle.book.specs.Book.{Substitution, replaced, substituted, under}
use Rattle.frames.specs.Database.{Database, database}
use Rattle.frames.specs.Facts.{◌∈◌, statement_of, floated, typecode, Floats}
use Rattle.frames.proofs.Chains.{equal-true, equal-false, below-yes, below-no}
use Rattle.frames.proofs.Tells.{true-not-false}
use Rattle.facts.proofs.GoodFacts.{good-facts}
use Rattle.machine.specs.declared.Refusal.TheVariants.{PoolFull}
use Rattle.machine.specs.Ground.{is_variable, is_float, expression, expression_of, add_if, mandatory}
use Rattle.machine.specs.Memory.{cost}
use Rattle.machine.specs.Prepare.{spend}
use Rattle.machine.specs.Apply.{conclude, conclusion}
use Rattle.packed.specs.Packing.{packed}
use Rattle.packed.specs.Pool.{range}
use Rattle.packed.specs.Lists.{Located, Shows, Substitutes}
use Rattle.packed.proofs.Packs.{pack-length}
use Rattle.packed.proofs.Written.{range-written}
use Rattle.packed.proofs.Joining.{grown-of-to, grown-of-full}
use Rattle.packed.proofs.Lists.{located-defined}
use Rattle.resolve.specs.Filed.{Filed}
use Rattle.resolve.proofs.Filing.{located-statement, filed-indexed}
use Rattle.memory.specs.declared.table.Row.{Row}
use Rattle.memory.specs.declared.Counts.{Counts}
use Rattle.memory.specs.declared.Limits.{Limits}
use Rattle.memory.specs.Outcome.{Outcome}
use Rattle.memory.specs.Shown.{mark_of, Means, with_used, with_nodes, Pushes}
use Rattle.memory.proofs.Stored.{push-used}
use Rattle.memory.proofs.Showing.{shown-grown, down-drop}
use Rattle.memory.proofs.Ending.{ends-stop, ends-skip, push-ends}
use Rattle.apply.specs.Hyps.{ImageShown}
use Rattle.apply.specs.Claim.{ClaimRow, Finalizes}

-- a listed $f has its variable among the mandatory ones
pub mandatory-there : (db : Database) (hs : List ℕ) (h v : ℕ) → h ∈ hs → Floats db v h → v ∈ mandatory db hs
unfolding mandatory is_float add_if
mandatory-there db [] h v i fl = absurd (Memᴰ.not-nil i)
mandatory-there db (g ∷ gs) h v i fl = found (is_float (statement_of db g)) refl (mandatory-there db gs h v) (Memᴰ.cases_cons i)
  where
    found : (t : Bool) → is_float (statement_of db g) ≡ t → (h ∈ gs → Floats db v h → v ∈ mandatory db gs) → (h ≡ g) ⊎ (h ∈ gs)
        → v ∈ add_if (is_float (statement_of db g)) (floated (statement_of db g)) (mandatory db gs)
    found true e later (inl same) = rw (e, ← same, fl.variable) (Memᴰ.head refl)
    found false e later (inl same) = absurd (equal-false _ _ e (rw (← same) fl.kind))
    found true e later (inr i) = rw e (Memᴰ.tail (later i fl))
    found false e later (inr i) = rw e (later i fl)

-- a symbol of what is substituted: a constant of the sequence, or a symbol of the image of one of its variables
pub data From (variable : ℕ → Bool) (σ : Substitution) (xs : List ℕ) (t : ℕ) : Type 0 where
  stays : t ∈ xs → variable t ≡ false → From variable σ xs t
  comes : (s : ℕ) → s ∈ xs → variable s ≡ true → t ∈ σ s → From variable σ xs t

pub substituted-from : (variable : ℕ → Bool) (σ : Substitution) (xs : List ℕ) (t : ℕ) → t ∈ substituted variable σ xs → From variable σ xs t
unfolding substituted replaced
substituted-from variable σ [] t i = absurd (Memᴰ.not-nil i)
substituted-from variable σ (s ∷ ss) t i = sorted (variable s) refl (substituted-from variable σ ss t) (Memᴰ.append_cases (replaced (variable s) (σ s) s) i)
  where
    later : From variable σ ss t → From variable σ (s ∷ ss) t
    later (stays m e) = stays (Memᴰ.tail m) e
    later (comes r m e n) = comes r (Memᴰ.tail m) e n

    only : variable s ≡ false → (t ≡ s) ⊎ (t ∈ []) → From variable σ (s ∷ ss) t
    only e (inl same) = stays (rw same (Memᴰ.head refl)) (rw same e)
    only e (inr n) = absurd (Memᴰ.not-nil n)

    sorted : (b : Bool) → variable s ≡ b → (t ∈ substituted variable σ ss → From variable σ ss t) → (t ∈ replaced (variable s) (σ s) s) ⊎ (t ∈ substituted variable σ ss)
        → From variable σ (s ∷ ss) t
    sorted true e rest (inl m) = comes s (Memᴰ.head refl) e (rw e at m)
    sorted false e rest (inl m) = only e (Memᴰ.cases_cons (rw e at m))
    sorted b e rest (inr m) = later (rest m)

module _ {f syms stmts : List ℕ} {a at : ℕ} (filed : Filed f syms stmts) (loc : Located f a at) (asserts : 4 ≤ (statement_of (database f) a).kind)
    {vs pool : List ℕ} {used : ℕ} {froms tos sets : List ℕ} (σ : Substitution)
    (images : (v : ℕ) → v ∈ mandatory (database f) (statement_of (database f) a).hyps → ImageShown (database f) vs pool used froms tos sets v (σ v)) where
  later : (ys : List ℕ) {v : ℕ} → v ∈ drop 1 ys → v ∈ ys
  later [] m = m
  later (y ∷ ys) m = Memᴰ.tail m

  claim-image : (v : ℕ) → v ∈ (expression_of (database f) a).symbols → is_variable (database f) v ≡ true → ImageShown (database f) vs pool used froms tos sets v (σ v)
  unfolding expression_of expression is_variable
  claim-image v i var =
      let member = later (statement_of (database f) a).symbols i in
      let facts = (good-facts f filed.good).statement a loc.there in
      let given = facts.claim_given asserts v member (record { defined = facts.symbols_defined v member; class = equal-true _ _ var }) in
      images v (mandatory-there (database f) (statement_of (database f) a).hyps given.by v given.listed given.floats)

  claim-shows : Shows (database f) froms tos pool σ (expression_of (database f) a).symbols
  claim-shows = record { shows = λ v i var. (claim-image v i var).text; defined = λ v i var. (claim-image v i var).defined }

  -- the row of the claim stands for it as substituted
  claim-means : {pool' : List ℕ} {to tag end word : ℕ} {row : Row} → ClaimRow f syms at sets used to tag end word row → used ≤ to
      → range used to pool' ≡ packed (database f) (substituted (is_variable (database f)) σ (expression_of (database f) a).symbols)
      → Means (database f) vs pool' to row (under (is_variable (database f)) σ (expression_of (database f) a))
  unfolding under expression_of expression
  claim-means claim rises text =
      let known = located-defined loc filed.good in
      record {
        typecode = claim.head ∙ ap typecode (sym (located-statement loc));
        rises = rw (claim.from_is, claim.to_is) rises;
        within = let e = claim.to_is in omega arith;
        symbols = rw (claim.from_is, claim.to_is) text;
        defined = record { defined = λ t i. defined-from t known.defined (substituted-from (is_variable (database f)) σ (drop 1 (statement_of (database f) a).symbols) t i) };
        known = λ t i var. known_from t var (substituted-from (is_variable (database f)) σ (drop 1 (statement_of (database f) a).symbols) t i);
        numbers = claim.vars.gathers a σ vs (filed-indexed filed) loc (λ s i var. (claim-image s i var).numbers);
      }
    where
      defined-from : (t : ℕ) → ((s : ℕ) → s ∈ drop 1 (statement_of (database f) a).symbols → s < length (database f).symbols)
          → From (is_variable (database f)) σ (drop 1 (statement_of (database f) a).symbols) t → t < length (database f).symbols
      defined-from t d (stays m e) = d t m
      defined-from t d (comes s m e n) = (claim-image s m e).defined.defined t n

      known_from : (t : ℕ) → is_variable (database f) t ≡ true → From (is_variable (database f)) σ (drop 1 (statement_of (database f) a).symbols) t → t ∈ vs
      known_from t var (stays m e) = absurd (true-not-false var e)
      known_from t var (comes s m e n) = (claim-image s m e).known t n var

-- the pool after the claim was added: 43, or its packed text stands there
module _ {f syms : List ℕ} {at : ℕ} {froms tos sets pool stack : List ℕ} {c : Counts} {limits : Limits} {left tag end word nodes : ℕ} {pool' : List ℕ} (fits : limits.pool ≤ length pool)
    (same_size : length pool' ≡ length pool) where
  pub finalizes-full : Substitutes f syms at froms tos c.used limits.pool pool pool' None
      → Finalizes f syms at froms tos sets pool stack c limits left tag end word nodes pool' stack (Err PoolFull)
  unfolding conclude conclusion under
  finalizes-full subst =
      record {
        grows = λ c' e. let z : ◌≡◌ {A = ℕ} 0 1 = cc in absurd (omega arith);
        pool_sized = same_size;
        follows = λ stmts p text numbers places locals tree a σ xs h m filed loc asserts images depth s records.
            let adds = subst.adds a σ (filed-indexed filed) loc (claim-shows filed loc asserts σ images) in
            let full = grown-of-full _ c.used limits.pool adds.answers in
            let size = pack-length (database f) (substituted (is_variable (database f)) σ (expression_of (database f) a).symbols) in
            let used = s.pool in
            ends-stop _ (below-yes (omega arith));
      }

  pub finalizes-to : {to : ℕ} {row : Row} {stack' : List ℕ} {answer : Outcome} → c.used ≤ to → Substitutes f syms at froms tos c.used limits.pool pool pool' (Some to)
      → ClaimRow f syms at sets c.used to tag end word row → Pushes stack (with_nodes (with_used c c.count to) nodes) limits.stack left row stack' answer
      → Finalizes f syms at froms tos sets pool stack c limits left tag end word nodes pool' stack' answer
  unfolding conclude conclusion under spend
  finalizes-to {to} {row} {stack'} {answer} low subst claim pushes =
      record {
        grows = λ c' e. let u = push-used pushes e in omega arith;
        pool_sized = same_size;
        follows = λ stmts p text numbers places locals tree a σ xs h m filed loc asserts images depth s records.
            let adds = subst.adds a σ (filed-indexed filed) loc (claim-shows filed loc asserts σ images) in
            let said = grown-of-to _ c.used limits.pool to adds.answers in
            let size = pack-length (database f) (substituted (is_variable (database f)) σ (expression_of (database f) a).symbols) in
            let used = s.pool in
            let spent : to - c.used ≡ cost (database f) (substituted (is_variable (database f)) σ (expression_of (database f) a).symbols) = omega (arith, said.0) in
            let there : range c.used to pool' ≡ packed (database f) (substituted (is_variable (database f)) σ (expression_of (database f) a).symbols) =
            ap (λ (k : ℕ). range c.used k pool') said.0 ∙ (ap (λ (q : List ℕ). range c.used (c.used + length (packed (database f) (substituted (is_variable (database f)) σ (expression_of (database f) a).symbols))) q)
            (adds.holds (below-no (omega (arith, said.0, said.1)))) ∙ range-written _ c.used pool (omega (arith, said.0, said.1))) in
            let grown = shown-grown s [] numbers pool' c.count to (rw (append-nil m.variables) s.numbered) s.variables_few refl adds.sized adds.kept (omega (arith, said.0)) said.1 in
            let now = rw (append-nil m.variables, spent) at grown in
            ends-skip PoolFull (below-no (omega (arith, said.0, said.1)))
            (push-ends now left h nodes row (record { proved = conclusion (database f) a σ xs; mark = mark_of text tag end }) pushes (omega arith) (down-drop h left depth now.stack) (λ kept d. down-drop h left depth d) claim.sized
            (claim-means filed loc asserts σ images claim (omega (arith, said.0)) there) (rw (claim.tag_is, claim.end_is) refl) (rw claim.word_is records));
      }
