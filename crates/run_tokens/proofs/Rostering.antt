-- The first token, the roster, and a token in each mode.
use Rattle.std.proofs.Common.{Ok, Err}
use Prim.Native.Nat.{ℕ, ◌*◌, ◌≤◌}
use mathlib.Core.Path.{◌≡◌, refl, ◌∙◌}
use mathlib.Core.Bool.{Bool, true, false}
use mathlib.Core.List.{List}
use native.Mathlib.Omega.{arith}
use lib.ListN.{length, get_or}
use Rattle.frames.specs.Logic.{same, pick}
use Rattle.frames.specs.Database.{database}
use Rattle.frames.specs.Facts.{statement_of}
use Rattle.machine.specs.Chain.{Result}
use Rattle.machine.specs.Reading.{opening, closing}
use Rattle.machine.specs.Memory.{Memory}
use Rattle.machine.specs.Prepare.{prepare_roster, preload}
use Rattle.machine.specs.Run as machine
use Rattle.machine.proofs.Gives.{Gives}
use Rattle.machine.proofs.Stepped.{StepsAre, steps-out, preload-steps, roster-steps}
use Rattle.packed.specs.Pool.{range}
use Rattle.resolve.proofs.Filing.{filed-located}
use Rattle.memory.specs.declared.Counts.{Counts}
use Rattle.memory.specs.Outcome.{Outcome}
use Rattle.memory.specs.Shown.{room_of, Shown}
use Rattle.memory.proofs.Ending.{ends-go, ends-refused}
use Rattle.apply.proofs.OneHyp.{ranged-more}
use Rattle.engine.specs.Ready.{Bounded}
use Rattle.engine.specs.Roster.{PreparesRoster, Preloads}
use Rattle.run.specs.Running.{Env, Tables, tables, Sized, Running, Proceeds, bench_of, lent_of, width_of}
use Rattle.run.specs.declared.Mode.{Mode}
use Rattle.run.specs.declared.Mode.TheVariants.{Beginning, Normal, Roster, Letters}
use Rattle.run.specs.Read.{Read, Go}
use Rattle.run.specs.Reads.{mode_of, Low, roster, letters, Reads, goes, Keeps}
use Rattle.run_tokens.specs.Tokens.{ReadsNormal, roster_read, ReadsToken}
use Rattle.run.proofs.Settling.{settled-go, stopped, keeps-stop, keeps-go}

-- what takes places in the roster
module _ {e : Env} {t t' : Tables} {c : Counts} {op : Memory → Result Memory} (counts : (m : Memory) → Gives (StepsAre m.steps) (op m)) where
  roster-keeps : (outcome : Outcome) (steps : ℕ) → Proceeds e t t' c op outcome → Keeps (width_of e) t' steps (roster_read outcome steps)
  unfolding roster_read
  roster-keeps (Ok c') steps takes = keeps-go (takes.sized c' refl) roster (omega arith)
  roster-keeps (Err why) steps takes = keeps-stop

  roster-reads : (outcome : Outcome) {steps : ℕ} (from : ℕ) (m : Memory) (next : machine.Mode → Memory → machine.State) → Proceeds e t t' c op outcome → m.steps ≡ steps
      → Shown (bench_of e) (lent_of t) c m
      → Reads e t' from next (machine.settle (op m) from m.steps (next machine.in_roster)) (roster_read outcome steps)
  unfolding roster_read mode_of
  roster-reads (Ok c') from m next takes n shown =
      let w = ends-go (takes.follows m shown) in
      settled-go m.steps next Roster w.1 w.2 (steps-out (counts m) w.1 ∙ n)
  roster-reads (Err why) from m next takes n shown = stopped next _ n (ends-refused (takes.follows m shown))

-- the tables with these numbers, this pool and these places
abbrev with_roster : Tables → List ℕ → List ℕ → List ℕ → Tables
with_roster t numbers pool places = tables t.seats t.froms t.tos t.sets numbers pool t.stack places t.locals t.tree

module _ {e : Env} {t : Tables} {c : Counts} (r : Running e t c) where
  -- what the roster asks for
  pub roster-there : (Bounded e.limits c × (e.limits.pool ≤ length t.pool)) × ((10 * e.limits.places ≤ length t.places) × (e.limits.places ≤ 4096))
  roster-there =
      let s = r.shown in
      ((record { variables = s.variables_few; pool = s.pool_few; places = s.places_few }, s.pool_sized), (s.places_sized, s.places_limit))

  sized-more : {used : ℕ} (numbers pool places : List ℕ) → c.used ≤ used → Sized (width_of e) (with_roster t numbers pool places) used
  sized-more numbers pool places more =
      let z = r.sized in
      record { seats = z.seats; froms = z.froms; tos = z.tos; sets = z.sets; ranged = ranged-more more z.ranged }

  -- the listed hypotheses
  preloads : {at : ℕ} {numbers' pool' places' : List ℕ} {outcome : Outcome} → at ≡ get_or e.statements e.asked 0
      → Preloads e.file e.symbols e.statements at t.numbers t.pool t.places c e.limits numbers' pool' places' outcome
      → Proceeds e t (with_roster t numbers' pool' places') c (preload (database e.file) (room_of e.limits) (statement_of (database e.file) e.asked).hyps) outcome
  preloads offset takes =
      let k = r.checked in
      record {
        sized = λ c' is. sized-more _ _ _ (takes.taken c' is).used;
        follows = λ m shown.
            takes.follows e.asked e.text t.stack t.locals t.tree m k.filed (rw offset (filed-located k.filed e.asked k.asked)) shown;
      }

  -- a roster label
  abbrev named_place : List ℕ → Memory → Result Memory
  named_place label m = prepare_roster (database e.file) e.asked (room_of e.limits) m label

  prepares : {label numbers' pool' places' : List ℕ} {outcome : Outcome}
      → PreparesRoster e.file e.symbols e.statements e.asked label t.numbers t.pool t.places c e.limits numbers' pool' places' outcome
      → Proceeds e t (with_roster t numbers' pool' places') c (named_place label) outcome
  prepares takes =
      let k = r.checked in
      record {
        sized = λ c' is. sized-more _ _ _ (takes.taken c' is).used;
        follows = λ m shown. takes.follows e.text t.stack t.locals t.tree m k.filed k.asked shown;
      }

  module _ {from to steps : ℕ} where
    -- `(`
    pub first-opens : {at : ℕ} {numbers' pool' places' : List ℕ} {outcome : Outcome} {answer : Read} → same (range from to e.text) opening ≡ true
        → at ≡ get_or e.statements e.asked 0
        → Preloads e.file e.symbols e.statements at t.numbers t.pool t.places c e.limits numbers' pool' places' outcome
        → answer ≡ roster_read outcome steps → ReadsToken e t (with_roster t numbers' pool' places') c Beginning from to steps answer
    unfolding machine.on_token mode_of pick
    first-opens {outcome = outcome} opens offset takes is =
        record {
          keeps = rw is (roster-keeps (preload-steps (database e.file) (room_of e.limits) _) outcome steps (preloads offset takes));
          follows = λ m next n shown.
              rw (opens, is) (roster-reads (preload-steps (database e.file) (room_of e.limits) _) outcome from m next (preloads offset takes) n shown);
        }

    -- a normal token
    pub first-normal : {t' : Tables} {answer : Read} → same (range from to e.text) opening ≡ false → ReadsNormal e t t' c from to steps answer
        → ReadsToken e t t' c Beginning from to steps answer
    unfolding machine.on_token mode_of pick
    first-normal other reads =
        record { keeps = reads.keeps; follows = λ m next n shown. rw other (reads.follows m next n shown) }

    pub token-normal : {t' : Tables} {mode : Mode} {answer : Read} → mode ≡ Normal → ReadsNormal e t t' c from to steps answer
        → ReadsToken e t t' c mode from to steps answer
    unfolding machine.on_token mode_of
    token-normal is reads =
        record { keeps = reads.keeps; follows = λ m next n shown. rw is (reads.follows m next n shown) }

    pub token-first : {t' : Tables} {mode : Mode} {answer : Read} → mode ≡ Beginning → ReadsToken e t t' c Beginning from to steps answer
        → ReadsToken e t t' c mode from to steps answer
    token-first is reads = rw is reads

    -- `)`
    pub token-closes : {mode : Mode} → mode ≡ Roster → same (range from to e.text) closing ≡ true
        → ReadsToken e t t c mode from to steps (Go (Letters 0 false) c steps)
    unfolding machine.on_token mode_of pick
    token-closes is closes =
        record {
          keeps = keeps-go r.sized (letters (omega arith)) (omega arith);
          follows = λ m next n shown. rw (is, closes) (goes shown n);
        }

    -- a roster label
    pub token-named : {mode : Mode} {numbers' pool' places' : List ℕ} {outcome : Outcome} {answer : Read} → mode ≡ Roster → same (range from to e.text) closing ≡ false
        → PreparesRoster e.file e.symbols e.statements e.asked (range from to e.text) t.numbers t.pool t.places c e.limits numbers' pool' places' outcome
        → answer ≡ roster_read outcome steps → ReadsToken e t (with_roster t numbers' pool' places') c mode from to steps answer
    unfolding machine.on_token mode_of pick
    token-named {outcome = outcome} is other takes told =
        record {
          keeps =
              rw told (roster-keeps (λ m. roster-steps (database e.file) e.asked (room_of e.limits) m _) outcome steps (prepares takes));
          follows = λ m next n shown.
              rw (is, other, told)
              (roster-reads (λ m'. roster-steps (database e.file) e.asked (room_of e.limits) m' _) outcome from m next (prepares takes) n shown);
        }

    -- in the letters
    pub token-letters : {mode : Mode} {k : ℕ} {can_save : Bool} → mode ≡ Letters k can_save → Low mode → ReadsToken e t t c mode from to steps (Go (Letters k can_save) c steps)
    unfolding machine.on_token mode_of
    token-letters is low =
        record {
          keeps = keeps-go r.sized (rw is at low) (omega arith);
          follows = λ m next n shown. rw is (goes shown n);
        }
