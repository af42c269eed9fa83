-- Preparing a hypothesis: the code's tests are those of the definition, on the counts that the tables hold.
use Rattle.std.proofs.Common.{Some, None, Ok, Err}
use Prim.Native.Nat.{ℕ, ◌+◌, ◌-◌, ◌≤◌, ◌<◌}
use mathlib.Core.Path.{◌≡◌, refl, sym, ◌∙◌, ap}
use mathlib.Core.Bool.{Bool, true, false}
use mathlib.Core.Logic.{◌⊎◌, inl, inr}
use mathlib.Core.List.Memᴰ
use mathlib.Core.List.{List, [], ◌∷◌}
use native.Mathlib.Omega.{arith}
use lib.ListN.{length, get_or, take, drop}
use Rattle.frames.specs.Logic.{pick}
use Rattle.frames.specs.Database.{database, statement_at}
use Rattle.frames.specs.Facts.{statement_of, floated}
use Rattle.frames.proofs.Chains.{equal-yes, equal-no, below-yes, below-no}
use Rattle.machine.specs.declared.Refusal.{Refusal}
use Rattle.machine.specs.declared.Refusal.TheVariants.{PoolFull, TooManyVariables}
use Rattle.machine.specs.Chain.{Result, fine, stop, unless}
use Rattle.machine.specs.Ground.{add_if, is_float, expression_of}
use Rattle.machine.specs.Memory.{cost, recalls}
use Rattle.machine.specs.Run.{all_numbered}
use Rattle.machine.specs.Prepare.{numbered, numbered_by, ready, spend, leaf_of, prepare_hypothesis}
use Rattle.packed.specs.Packing.{packed}
use Rattle.packed.specs.Pool.{range}
use Rattle.packed.specs.Lists.{Indexed, Located, Spells}
use Rattle.packed.proofs.Packs.{pack-length}
use Rattle.packed.proofs.Written.{range-written}
use Rattle.packed.proofs.Joining.{grown-of-to, grown-of-full}
use Rattle.variables.specs.Numbering.{Numbered, MapsAll, float_at}
use Rattle.resolve.proofs.Filing.{located-statement}
use Rattle.engine.specs.Hypothesis.{MapsFloat, result_of, Prepares}
use Rattle.engine.specs.Prepared.{Prepared, Made}

numbered_told : {table table' : List ℕ} {count count' : ℕ} (t : Bool) (x : ℕ) → MapsAll table count (add_if t x []) table' count' → (vs : List ℕ)
    → (t ≡ true → x < length table) → Numbered table count vs → Numbered table' count' (pick t (numbered vs x) vs)
unfolding add_if pick all_numbered
numbered_told true x m vs inside n = m.maps vs (λ w k. elim (Memᴰ.cases_cons k) [ inl e ↦ rw e (inside refl) | inr z ↦ absurd (Memᴰ.not-nil z) ]) n
numbered_told false x m vs inside n = m.maps vs (λ w k. absurd (Memᴰ.not-nil k)) n

chain-stop : {A : Type 0} {t : Bool} {why : Refusal} (rest : Result A) → t ≡ true → unless t why rest ≡ stop why
unfolding unless
chain-stop rest e = rw e refl

chain-skip : {A : Type 0} {t : Bool} {rest : Result A} (why : Refusal) → t ≡ false → unless t why rest ≡ rest
unfolding unless
chain-skip why e = rw e refl

-- what is numbered for the list of a $f's variable, or of none, is numbered for the statement
pub maps-float : (f : List ℕ) (at : ℕ) {table table' : List ℕ} {count count' : ℕ} → MapsAll table count (float_at f at) table' count'
    → MapsFloat f at table count table' count'
unfolding numbered_by
maps-float f at {table} {table'} {count} {count'} m =
    record { sized = m.sized; maps = numbered_told (is_float (statement_at f at)) (floated (statement_at f at)) m }

-- two hypotheses that are ready and the same have the same parts
used-in : Prepared → ℕ
used-in (Ok r) = r.used
used-in (Err why) = 0

count-in : Prepared → ℕ
count-in (Ok r) = r.count
count-in (Err why) = 0

made-parts : {u c u' c' : ℕ} → Made u c ≡ Made u' c' → (u ≡ u') × (c ≡ c')
unfolding used-in count-in
made-parts e = (ap used-in e, ap count-in e)

module _ (f syms : List ℕ) (at : ℕ) (table : List ℕ) (count : ℕ) (pool : List ℕ) (used limit : ℕ) {table' : List ℕ} {count' : ℕ}
    (m : MapsFloat f at table count table' count') where
  -- how many variables have a number then
  counted : (h : ℕ) (vs : List ℕ) → Located f h at
      → (is_float (statement_of (database f) h) ≡ true → floated (statement_of (database f) h) < length table) → Numbered table count vs
      → Numbered table' count' (numbered_by (statement_of (database f) h) vs)
  counted h vs loc inside n =
      let st = located-statement loc in
      rw st (m.maps vs (rw st at inside) n)

  -- a 257th variable
  pub prepares-many : 256 < count' → Prepares f syms at table count pool used limit table' pool (Err TooManyVariables)
  unfolding prepare_hypothesis result_of
  prepares-many many =
      record {
        sized = m.sized;
        pool_sized = refl;
        bounds = λ u c e. let z : ◌≡◌ {A = ℕ} 0 1 = cc in absurd (omega arith);
        kept = refl;
        past = refl;
        follows = λ h mem room ix loc e u inside n.
            let c = (counted h mem.variables loc inside n).counts in
            chain-stop _ (below-yes (omega arith));
        numbers = λ h vs u c loc e inside n. let z : ◌≡◌ {A = ℕ} 0 1 = cc in absurd (omega arith);
        holds = λ h u c ix loc e. let z : ◌≡◌ {A = ℕ} 0 1 = cc in absurd (omega arith);
      }

  module _ {pool' : List ℕ} (few : count' ≤ 256) (fits : limit ≤ length pool) (same_size : length pool' ≡ length pool) where
    -- no room in the pool
    pub prepares-full : Spells f syms at used limit pool pool' None → take used pool' ≡ take used pool → drop limit pool' ≡ drop limit pool
        → Prepares f syms at table count pool used limit table' pool' (Err PoolFull)
    unfolding prepare_hypothesis result_of
    prepares-full spells kept past =
        record {
          sized = m.sized;
          pool_sized = same_size;
          bounds = λ u c e. let z : ◌≡◌ {A = ℕ} 0 1 = cc in absurd (omega arith);
          kept = kept;
          past = past;
          follows = λ h mem room ix loc e u inside n.
              let c = (counted h mem.variables loc inside n).counts in
              let full = grown-of-full _ used limit (spells.adds h ix loc).answers in
              let size = pack-length (database f) (expression_of (database f) h).symbols in
              chain-skip TooManyVariables (below-no (omega arith)) ∙ chain-stop _ (below-yes (omega arith));
          numbers = λ h vs u c loc e inside n. let z : ◌≡◌ {A = ℕ} 0 1 = cc in absurd (omega arith);
          holds = λ h u c ix loc e. let z : ◌≡◌ {A = ℕ} 0 1 = cc in absurd (omega arith);
        }

    -- it is ready
    pub prepares-ready : {end : ℕ} → used ≤ end → end ≤ limit → Spells f syms at used limit pool pool' (Some end) → take used pool' ≡ take used pool → drop limit pool' ≡ drop limit pool
        → Prepares f syms at table count pool used limit table' pool' (Made end count')
    unfolding prepare_hypothesis result_of
    prepares-ready {end} low high spells kept past =
        record {
          sized = m.sized;
          pool_sized = same_size;
          bounds = λ u c e.
              let parts = made-parts e in
              let end_is : u ≡ end = sym parts.0 in
              let count-is : c ≡ count' = sym parts.1 in
              (omega arith, (omega arith, omega arith));
          kept = kept;
          past = past;
          follows = λ h mem room ix loc e u inside n.
              let c = (counted h mem.variables loc inside n).counts in
              let room-is = grown-of-to _ used limit end (spells.adds h ix loc).answers in
              let size = pack-length (database f) (expression_of (database f) h).symbols in
              let spent : cost (database f) (expression_of (database f) h).symbols ≡ end - used = omega arith in
              chain-skip TooManyVariables (below-no (omega arith)) ∙ (chain-skip PoolFull (below-no (omega arith))
              ∙ ap (λ (k : ℕ). fine (ready (spend mem (numbered_by (statement_of (database f) h) mem.variables) k) (recalls (leaf_of (database f) h)))) spent);
          numbers = λ h vs u c loc e inside n. let same : c ≡ count' = sym (made-parts e).1 in rw same (counted h vs loc inside n);
          holds = λ h u c ix loc e. let same : u ≡ end = sym (made-parts e).0 in rw same (written-there h ix loc);
        }
      where
        written-there : (h : ℕ) → Indexed f syms → Located f h at
            → range used end pool' ≡ packed (database f) (expression_of (database f) h).symbols
        written-there h ix loc =
            let a = spells.adds h ix loc in
            let said = grown-of-to _ used limit end a.answers in
            let there = a.holds (below-no (omega arith)) in
            ap (λ (k : ℕ). range used k pool') said.0 ∙ (ap (λ (p : List ℕ). range used (used + length (packed (database f) (expression_of (database f) h).symbols)) p) there
            ∙ range-written _ used pool (omega arith))
