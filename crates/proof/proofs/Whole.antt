-- The whole proof: the start, the text, its end.
use Rattle.std.proofs.Common.{Ok, Err}
use Prim.Native.Nat.{ℕ, ◌<◌}
use mathlib.Core.Path.{◌≡◌, refl, sym, ◌∙◌, ap}
use mathlib.Core.List.{List, []}
use native.Mathlib.Omega.{arith}
use lib.ListN.{length, get_or}
use Rattle.frames.specs.Database.{Statement, Database, database, statement_at}
use Rattle.frames.specs.Facts.{◌∈◌, statement_of}
use Rattle.facts.proofs.GoodFacts.{good-facts}
use Rattle.machine.specs.declared.Refusal.{Refusal}
use Rattle.machine.specs.Chain.{fine, stop}
use Rattle.machine.specs.Answer.{Answer, refused}
use Rattle.machine.specs.Memory.{Room, Memory}
use Rattle.machine.specs.Run as machine
use Rattle.machine.proofs.Gives.{Gives, gives, unless-gives}
use Rattle.machine.proofs.Stepped.{StepsAre, steps-out}
use Rattle.packed.specs.Pool.{range}
use Rattle.resolve.proofs.Filing.{located-statement}
use Rattle.memory.specs.declared.Counts.{Counts}
use Rattle.memory.specs.Shown.{room_of, Shown}
use Rattle.memory.proofs.Ending.{ends-go, ends-refused}
use Rattle.apply.proofs.OneHyp.{ranged-more}
use Rattle.disjoint.specs.Disjoint.{Fills}
use Rattle.begin.specs.Begins.{Begins}
use Rattle.begin.proofs.Firsts.{members-first, members-below}
use Rattle.run.specs.declared.Mode.TheVariants.{Beginning}
use Rattle.run_bytes.specs.declared.State.{State}
use Rattle.run_bytes.specs.declared.Stopped.{Stopped}
use Rattle.run.specs.Running.{Env, env, Tables, tables, Running, bench_of, lent_of}
use Rattle.run_bytes.specs.Bytes.{Stands, ReadsText}
use Rattle.run_bytes.proofs.Looping.{over-bytes, alike-over, alike-going}
use Rattle.run.specs.Reads.{mode_of}
use Rattle.findings.specs.Answers.{Answer as TheAnswer}
use Rattle.findings.specs.Tells.{Tells, refuses}
use Rattle.findings.proofs.Finishing.{tells-same}
use Rattle.proof.specs.Whole.{EndsText, RunsText, Blank}
use Rattle.proof.proofs.LastToken.{there}

-- where the run begins
starts : {e : Env} {t : Tables} {c : Counts} (m : Memory) → m.steps ≡ 0 → Shown (bench_of e) (lent_of t) c m
    → Stands e t (record { mode = Beginning; token = 0; steps = 0; counts = c }) 0 (record { memory = m; mode = machine.beginning; token = []; at = 0 })
unfolding range mode_of
starts m n s = record { shown = s; steps = n; mode = refl; token = refl; place = refl }

begin-is : (m : Memory) → machine.begin m ≡ machine.going (record { memory = m; mode = machine.beginning; token = []; at = 0 })
unfolding machine.begin
begin-is m = refl

over-end : (db : Database) (p : ℕ) (room : Room) (a : Answer) → machine.on_end db p room (machine.over a) ≡ machine.over a
unfolding machine.on_end
over-end db p room a = refl

-- what is under check with this table; the tables with these numbers
abbrev pub with_table : Env → List ℕ → Env
with_table e table = env e.file e.symbols e.statements e.asked e.text table e.limits

abbrev pub with_numbers : Tables → List ℕ → Tables
with_numbers t numbers = tables t.seats t.froms t.tos t.sets numbers t.pool t.stack t.places t.locals t.tree

module _ {e : Env} {t t' : Tables} {c : Counts} where
  -- the run is over before the end
  pub text-over : {x : Stopped} → ReadsText e t t' (record { mode = Beginning; token = 0; steps = 0; counts = c }) (Err x) → RunsText e t t'.tree c (Err x)
  text-over {x} reads =
      record {
        tells = λ m n s.
            let path = ap (λ (y : machine.State). machine.on_bytes (database e.file) e.asked (room_of e.limits) y e.text) (begin-is m) ∙ alike-over (reads.follows _ (starts m n s)) in
            tells-same (ap (machine.on_end (database e.file) e.asked (room_of e.limits)) path ∙ over-end (database e.file) e.asked (room_of e.limits) (refused x.why x.place x.steps)) refuses;
      }

  -- it comes to the end
  pub text-going : {s : State} {tree : List ℕ} {r : TheAnswer} → ReadsText e t t' (record { mode = Beginning; token = 0; steps = 0; counts = c }) (Ok s) → EndsText e t' tree s r → RunsText e t tree c r
  text-going reads ends =
      record {
        tells = λ m n s.
            let w = alike-going (reads.follows _ (starts m n s)) in
            let path = ap (λ (y : machine.State). machine.on_bytes (database e.file) e.asked (room_of e.limits) y e.text) (begin-is m) ∙ w.1 in
            tells-same (ap (machine.on_end (database e.file) e.asked (room_of e.limits)) path) (ends.tells w.0 w.2);
      }

-- no step is completed at the start
admitted-steps : (db : Database) (p : ℕ) (text : List ℕ) → Gives (StepsAre 0) (machine.admitted db p text)
unfolding machine.admitted machine.fresh
admitted-steps db p text = unless-gives _ _ (λ t. unless-gives _ _ (λ u. gives (record { is = refl })))

start-stop : (db : Database) (p : ℕ) (room : Room) (text : List ℕ) (why : Refusal) → machine.admitted db p text ≡ stop why → machine.run db p room text ≡ machine.over (refused why 0 0)
unfolding machine.run machine.start machine.settle
start-stop db p room text why e =
    rw e (ap (machine.on_end db p room) (over-bytes db p room (refused why 0 0) text) ∙ over-end db p room (refused why 0 0))

start-go : (db : Database) (p : ℕ) (room : Room) (text : List ℕ) (m : Memory) → machine.admitted db p text ≡ fine m
    → machine.run db p room text ≡ machine.on_end db p room (machine.on_bytes db p room (machine.begin m) text)
unfolding machine.run machine.start machine.settle
start-go db p room text m e = rw e refl

module _ {e : Env} {t : Tables} (b : Blank e t) {at : ℕ} (at-is : at ≡ get_or e.statements e.asked 0) where
  pub verify-refused : {numbers' : List ℕ} {why : Refusal} → Begins e.file e.statements at e.text t.numbers numbers' (Err why)
      → Tells e.file t.tree (machine.run (database e.file) e.asked (room_of e.limits) e.text) (Err (record { why = why; place = 0; steps = 0 }))
  verify-refused {numbers'} {why} begins =
      let stopped = ends-refused (begins.follows e.symbols e.asked e.limits t.pool t.stack t.places t.locals t.tree b.filed (there b.filed b.asked at-is) b.numbers b.roomy) in
      tells-same (start-stop (database e.file) e.asked (room_of e.limits) e.text why stopped) refuses

  module _ {numbers' : List ℕ} {c : Counts} (begins : Begins e.file e.statements at e.text t.numbers numbers' (Ok c)) where
    begun : (m : Memory) × (machine.admitted (database e.file) e.asked e.text ≡ fine m) × Shown (bench_of e) (lent_of (with_numbers t numbers')) c m
    begun = ends-go (begins.follows e.symbols e.asked e.limits t.pool t.stack t.places t.locals t.tree b.filed (there b.filed b.asked at-is) b.numbers b.roomy)

    inside : (v : ℕ) → v ∈ machine.members (statement_of (database e.file) e.asked).pairs → v < length numbers'
    inside v i =
        let facts = good-facts e.file b.filed.good in
        let st = facts.statement e.asked b.asked in
        let below = members-below (length (database e.file).symbols) _ (λ q j. ((st.pair_first q j).defined, (st.pair_second q j).defined)) v i in
        let large = b.numbers.sized in
        let same = begins.sized in
        omega arith

    pub running-start : {table' : List ℕ} → Fills numbers' (statement_at e.file at).pairs e.table table' → Running (with_table e table') (with_numbers t numbers') c
    running-start {table'} fills =
        let w = begun in
        let few = w.2.variables_few in
        let numbered = begins.numbered e.symbols e.asked c b.filed (there b.filed b.asked at-is) b.numbers refl in
        let count = numbered.counts in
        let pairs-are = ap (λ (st : Statement). st.pairs) (sym (located-statement (there b.filed b.asked at-is))) in
        record {
          checked =
              record {
                filed = b.filed;
                asked = b.asked;
                under =
                    record {
                      tabled = (rw pairs-are at fills).fills (machine.first_variables (database e.file) e.asked) c.count b.table numbered (omega arith) (members-first (database e.file) e.asked) inside;
                      known = members-first (database e.file) e.asked;
                    };
                small = b.small;
                text_few = b.text_few;
              };
          sized = record { seats = b.sized.seats; froms = b.sized.froms; tos = b.sized.tos; sets = b.sized.sets; ranged = ranged-more (omega arith) b.sized.ranged };
          memory = w.0;
          shown = w.2;
        }

    pub verify-text : {table' tree' : List ℕ} {r : TheAnswer} → RunsText (with_table e table') (with_numbers t numbers') tree' c r → Tells e.file tree' (machine.run (database e.file) e.asked (room_of e.limits) e.text) r
    verify-text runs =
        let w = begun in
        tells-same (start-go (database e.file) e.asked (room_of e.limits) e.text w.0 w.1) (runs.tells w.0 (steps-out (admitted-steps _ _ _) w.1) w.2)
