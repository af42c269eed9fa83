-- The start of a run: numbering the mandatory variables and then the members of the pairs numbers the first variables, and the tests of the code are
-- those of the definition.
use Rattle.std.proofs.Common.{Ok, Err}
use Prim.Native.Nat.{ℕ, ◌≤◌, ◌<◌}
use mathlib.Core.Path.{◌≡◌, refl, sym, ◌∙◌, ap}
use mathlib.Core.Bool.{true, false}
use mathlib.Core.List.{List, [], append-nil}
use native.Mathlib.Omega.{arith}
use lib.ListN.{length}
use Rattle.frames.specs.Logic.{pick, any, rows}
use Rattle.frames.specs.Database.{Statement, database, statement_at}
use Rattle.frames.specs.Facts.{◌∈◌, statement_of, StatementFacts}
use Rattle.frames.proofs.Chains.{below-yes, below-no}
use Rattle.facts.proofs.GoodFacts.{good-facts}
use Rattle.machine.specs.declared.Refusal.TheVariants.{BadByte, TooManyVariables}
use Rattle.machine.specs.Ground.{among, mandatory}
use Rattle.machine.specs.Reading.{bad_byte}
use Rattle.machine.specs.Run.{members, first_variables, fresh, admitted}
use Rattle.packed.specs.Lists.{Located}
use Rattle.variables.specs.Numbering.{tag, Numbered, MapsAll, floats_at}
use Rattle.variables.proofs.Floats.{floats-few, floats-mandatory}
use Rattle.resolve.specs.Filed.{Filed}
use Rattle.resolve.specs.Locals.{locals_of}
use Rattle.resolve.proofs.Filing.{filed-statement}
use Rattle.tree.specs.Recorded.{start}
use Rattle.memory.specs.declared.Counts.{Counts}
use Rattle.memory.specs.declared.Limits.{Limits}
use Rattle.memory.specs.Shown.{bench, lent, bottom, ends, Shown, goes}
use Rattle.memory.proofs.Ending.{ends-stop, ends-skip}
use Rattle.begin.specs.Begins.{Unnumbered, Roomy, Begins}
use Rattle.begin.proofs.Firsts.{mandatory-first, mandatory-below, members-below, located-statement}

none-numbered : {f numbers : List ℕ} → Unnumbered f numbers → Numbered numbers 0 []
unfolding tag among any pick
none-numbered u = record { counts = refl; tags = λ v l. u.zeros v }

-- the counts at the start: nothing is used but the variables
abbrev begun : ℕ → Counts
begun count = record { used = 0; count = count; places = 0; locals = 0; depth = 0; nodes = 0 }

module _ {f syms stmts : List ℕ} {p at : ℕ} (w : Filed f syms stmts) (loc : Located f p at) where
  facts : StatementFacts (database f) p (statement_of (database f) p)
  facts = (good-facts f w.good).statement p loc.there

  listed_below : (h : ℕ) → h ∈ (statement_of (database f) p).hyps → h < length (database f).statements
  listed_below h i =
      let earlier = (facts.hyps_active h i).earlier in
      let there = loc.there in
      omega arith

  -- the variables of the listed $f, as the code reads them
  floats-are : floats_at f stmts (statement_at f at).hyps ≡ mandatory (database f) (statement_of (database f) p).hyps
  floats-are =
      rw (← located-statement loc)
      (floats-mandatory (database f) f stmts (statement_of (database f) p).hyps (λ h i. filed-statement w h (listed_below h i)))

  pub floats-limit : length (floats_at f stmts (statement_at f at).hyps) ≤ 64
  floats-limit =
      let few = facts.hyps_few in
      let same : length (statement_at f at).hyps ≡ length (statement_of (database f) p).hyps = ap (λ (st : Statement). length st.hyps) (sym (located-statement loc)) in
      let short = floats-few f stmts (statement_at f at).hyps in
      omega arith

  float-defined : (v : ℕ) → v ∈ mandatory (database f) (statement_of (database f) p).hyps → v < length (database f).symbols
  float-defined =
      mandatory-below (database f) (length (database f).symbols) (statement_of (database f) p).hyps
      (λ h i two. (((good-facts f w.good).statement h (listed_below h i)).float_variable two).defined)

  member-defined : (v : ℕ) → v ∈ members (statement_of (database f) p).pairs → v < length (database f).symbols
  member-defined =
      members-below (length (database f).symbols) (statement_of (database f) p).pairs (λ q i. ((facts.pair_first q i).defined, (facts.pair_second q i).defined))

  -- both in turn number the first variables
  pub firsts-numbered : {numbers between numbers' : List ℕ} {mandatory count : ℕ} → Unnumbered f numbers
      → MapsAll numbers 0 (floats_at f stmts (statement_at f at).hyps) between mandatory
      → MapsAll between mandatory (members (statement_at f at).pairs) numbers' count
      → Numbered numbers' count (first_variables (database f) p)
  unfolding first_variables
  firsts-numbered u floats pairs =
      let symbols = (good-facts f w.good).symbol-count in
      let large = u.sized in
      let same_size = floats.sized in
      let one = rw floats-are at floats.maps in
      let two = rw (← located-statement loc) at pairs.maps in
      two _ (λ v i. let d = member-defined v i in omega arith) (one [] (λ v i. let d = float-defined v i in omega arith) (none-numbered u))

module _ {f stmts : List ℕ} {at : ℕ} {text numbers : List ℕ} where
  -- a bad byte
  pub begins-bad : any bad_byte text ≡ true → Begins f stmts at text numbers numbers (Err BadByte)
  unfolding admitted
  begins-bad bad =
      record {
        sized = refl;
        follows = λ syms p limits pool stack places locals tree w loc u r. ends-stop _ bad;
        numbered = λ syms p c w loc u e. let z : ◌≡◌ {A = ℕ} 0 1 = cc in absurd (omega arith);
      }

  module _ {between : List ℕ} {mandatory : ℕ} (good : any bad_byte text ≡ false)
      (floats : MapsAll numbers 0 (floats_at f stmts (statement_at f at).hyps) between mandatory) where
    -- more mandatory variables than a good file has
    pub begins-never : 256 < mandatory → Begins f stmts at text numbers between (Err TooManyVariables)
    begins-never many =
        record {
          sized = floats.sized;
          follows = λ syms p limits pool stack places locals tree w loc u r. absurd (let few = floats.few in let limit = floats-limit w loc in omega arith);
          numbered = λ syms p c w loc u e. let z : ◌≡◌ {A = ℕ} 0 1 = cc in absurd (omega arith);
        }

    module _ {numbers' : List ℕ} {count : ℕ} (pairs : MapsAll between mandatory (members (statement_at f at).pairs) numbers' count) where
      -- a 257th variable
      pub begins-many : 256 < count → Begins f stmts at text numbers numbers' (Err TooManyVariables)
      unfolding admitted
      begins-many many =
          record {
            sized = pairs.sized ∙ floats.sized;
            follows = λ syms p limits pool stack places locals tree w loc u r.
                let counted = (firsts-numbered w loc u floats pairs).counts in
                ends-skip BadByte good (ends-stop _ (below-yes (omega arith)));
            numbered = λ syms p c w loc u e. let z : ◌≡◌ {A = ℕ} 0 1 = cc in absurd (omega arith);
          }

      -- the run goes on
      pub begins-go : count ≤ 256 → Begins f stmts at text numbers numbers' (Ok (begun count))
      unfolding admitted fresh locals_of rows
      begins-go few =
          record {
            sized = pairs.sized ∙ floats.sized;
            follows = λ syms p limits pool stack places locals tree w loc u r.
                let held = firsts-numbered w loc u floats pairs in
                let counted = held.counts in
                ends-skip BadByte good (ends-skip TooManyVariables (below-no (omega arith)) (goes (shown syms p limits pool stack places locals tree w loc u r held)));
            numbered = λ syms p c w loc u e.
                let same : begun count ≡ c = cc in
                rw (← same) (firsts-numbered w loc u floats pairs);
          }
        where
          shown : (syms : List ℕ) (p : ℕ) (limits : Limits) (pool stack places locals tree : List ℕ) → Filed f syms stmts → Located f p at → Unnumbered f numbers
              → Roomy limits pool stack places locals tree → Numbered numbers' count (first_variables (database f) p)
              → Shown (bench f syms stmts p limits text) (lent numbers' pool stack places locals tree) (begun count) (fresh (first_variables (database f) p))
          shown syms p limits pool stack places locals tree w loc u r held =
              record {
                numbered = held;
                variables_few = few;
                begun = record { more = []; is = sym (append-nil (first_variables (database f) p)) };
                mandatory_known = mandatory-first (database f) p;
                numbers_sized = let a = pairs.sized in let b = floats.sized in let c = u.sized in omega arith;
                pool = refl;
                pool_few = omega arith;
                pool_sized = r.pool_sized;
                stack = bottom;
                stack_few = omega arith;
                stack_limit = r.stack_limit;
                stack_sized = r.stack_sized;
                places = ends;
                placed = refl;
                places_few = omega arith;
                places_limit = r.places_limit;
                places_sized = r.places_sized;
                locals = refl;
                locals_few = omega arith;
                locals_sized = r.locals_sized;
                tree_limit = r.tree_limit;
                nodes_few = omega arith;
                derivations = λ enough. record { kept = []; recorded = start refl; on_stack = bottom; in_places = ends };
              }
