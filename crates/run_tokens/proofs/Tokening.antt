-- The tokens: what each does is what the definition does.
use Rattle.std.proofs.Common.{Ok, Err}
use Prim.Native.Nat.{ℕ, zero, suc, ◌+◌, ◌-◌, ◌*◌, ◌≤◌}
use mathlib.Core.Path.{◌≡◌, refl, sym, ◌∙◌}
use mathlib.Core.Bool.{true, false}
use mathlib.Core.Option.{Option, none, some}
use mathlib.Core.List.{List}
use native.Mathlib.Omega.{arith}
use lib.ListN.{length, get_or}
use Rattle.frames.specs.Logic.{same}
use Rattle.frames.specs.Database.{database}
use Rattle.frames.specs.declared.numbers.PlaceNo.{PlaceNo}
use Rattle.frames.specs.declared.numbers.StatementNo.{StatementNo}
use Rattle.machine.specs.declared.Refusal.{Refusal}
use Rattle.machine.specs.declared.Refusal.TheVariants.{ProofIncomplete}
use Rattle.machine.specs.Chain.{fine, unless, bind}
use Rattle.machine.specs.Reading.{question, split}
use Rattle.machine.specs.Memory.{Room, Memory, add_local, give_local}
use Rattle.machine.specs.Prepare.{ready}
use Rattle.machine.specs.Apply.{run_ready}
use Rattle.machine.specs.Run as machine
use Rattle.machine.proofs.Gives.{Gives, gives, unless-gives}
use Rattle.machine.proofs.Stepped.{given, steps-out, token-steps, local-steps}
use Rattle.packed.specs.Pool.{range}
use Rattle.resolve.specs.Readied.{Readied, Place, Hypothesis, Frame}
use Rattle.resolve.specs.Resolve.{readied, PreparesToken}
use Rattle.resolve.proofs.Filing.{filed-indexed, filed-located}
use Rattle.memory.specs.declared.Counts.{Counts}
use Rattle.memory.specs.Outcome.{Outcome}
use Rattle.memory.specs.Shown.{Bench, Lent, room_of, mark_of, Shown, Ends, refuses}
use Rattle.memory.proofs.Ending.{ends_by, ends-go, ends-refused}
use Rattle.spans.specs.declared.Span.{Span}
use Rattle.spans.specs.Spans.{StandsFor}
use Rattle.ends.specs.Local.{GivesLocal}
use Rattle.apply.specs.Hyps.{Ranged}
use Rattle.apply.specs.Step.{Executes}
use Rattle.apply.proofs.OneHyp.{ranged-more}
use Rattle.engine.specs.Ready.{PushesHypothesis}
use Rattle.engine.specs.Place.{RunsPlace}
use Rattle.run.specs.Running.{Env, Tables, tables, Sized, Running, Proceeds, bench_of, lent_of, width_of}
use Rattle.run.specs.declared.Mode.TheVariants.{Normal}
use Rattle.run.specs.Read.{Read, Go, Stop}
use Rattle.run.specs.Reads.{mode_of, normal}
use Rattle.run_tokens.specs.Tokens.{normal_step, Lends, with_labels, LabelsStep, ReadsNormal}
use Rattle.run.proofs.Settling.{settled-go, stopped, keeps-stop, keeps-go, PoolIs, save-pool}

module _ {e : Env} {t : Tables} {c : Counts} (r : Running e t c) where
  -- the tables of images after a step
  sized_on : {seats froms tos sets : List ℕ} {used : ℕ} (numbers pool stack tree : List ℕ) → 64 ≤ length seats → length froms ≡ length t.froms → length tos ≡ length t.tos
      → length sets ≡ length t.sets → Ranged froms tos c.used → c.used ≤ used → Sized (width_of e) (tables seats froms tos sets numbers pool stack t.places t.locals tree) used
  sized_on numbers pool stack tree a b d g h more =
      let z = r.sized in
      record { seats = a; froms = b ∙ z.froms; tos = d ∙ z.tos; sets = g ∙ z.sets; ranged = ranged-more more h }

  module _ {token : List ℕ} {mark : Span} (stands : StandsFor e.text (split token).mark mark) {step : Readied}
      (prep : PreparesToken e.file e.statements e.asked token e.text t.locals c.locals step) where
    -- the definition's step, by what is prepared
    named : {s : Readied} (m : Memory) → step ≡ s → Shown (bench_of e) (lent_of t) c m
        → normal_step (database e.file) e.asked (room_of e.limits) (split token) m
        ≡ bind (readied (database e.file) (room_of e.limits) m s) (run_ready (database e.file) e.asked (room_of e.limits) (mark_of e.text mark.tag mark.end))
    unfolding normal_step
    named m is shown =
        let k = r.checked in
        rw (stands.is, prep.follows e.symbols (room_of e.limits) m k.filed k.asked shown.locals, is) refl

    -- a place
    pub token-place : {k : PlaceNo} {seats' froms' tos' sets' pool' stack' tree' : List ℕ} {answer : Outcome} → step ≡ Place k → 64 ≤ length seats'
        → RunsPlace e.file e.symbols e.statements e.text e.table t.froms t.tos t.sets t.pool t.stack t.tree t.places k.0 c e.limits mark.tag mark.end froms' tos' sets' pool' stack' tree' answer
        → Proceeds e t (tables seats' froms' tos' sets' t.numbers pool' stack' t.places t.locals tree') c
        (normal_step (database e.file) e.asked (room_of e.limits) (split token)) answer
    unfolding readied
    token-place is seats runs =
        let k = r.checked in
        let z = r.sized in
        record {
          sized = λ c' q. sized_on _ _ _ _ seats runs.froms_sized runs.tos_sized runs.sets_sized runs.ranged (runs.grows c' q);
          follows = λ m shown.
              ends_by (named m is shown) refl
              (runs.follows e.asked t.numbers t.locals m k.filed k.asked k.under (let x = z.froms in omega arith) (let x = z.tos in omega arith) (let x = z.sets in omega arith) shown);
        }

    -- a $a or $p
    pub token-frame : {a : StatementNo} {seats' froms' tos' sets' pool' stack' tree' : List ℕ} {answer : Outcome} → step ≡ Frame a → 64 ≤ length seats'
        → Executes e.file e.symbols e.statements a.0 e.text e.table t.froms t.tos t.sets t.pool t.stack t.tree c e.limits mark.tag mark.end froms' tos' sets' pool' stack' tree' answer
        → Proceeds e t (tables seats' froms' tos' sets' t.numbers pool' stack' t.places t.locals tree') c
        (normal_step (database e.file) e.asked (room_of e.limits) (split token)) answer
    unfolding readied bind ready run_ready
    token-frame {a} is seats runs =
        let k = r.checked in
        let z = r.sized in
        record {
          sized = λ c' q. sized_on _ _ _ _ seats runs.froms_sized runs.tos_sized runs.sets_sized runs.ranged (runs.grows c' q);
          follows = λ m shown.
              ends_by (named m is shown) refl
              (runs.follows e.asked t.numbers t.places t.locals m k.filed k.asked ((prep.sensible e.symbols k.filed k.asked).frame a is) k.under
              (let x = z.froms in omega arith) (let x = z.tos in omega arith) (let x = z.sets in omega arith) shown);
        }

    -- a $f or $e
    pub token-hypothesis : {h : StatementNo} {at : ℕ} {numbers' pool' stack' : List ℕ} {answer : Outcome} → step ≡ Hypothesis h → at ≡ get_or e.statements h.0 0
        → PushesHypothesis e.file e.symbols at t.numbers t.pool t.stack c e.limits mark.tag mark.end numbers' pool' stack' answer
        → Proceeds e t (tables t.seats t.froms t.tos t.sets numbers' pool' stack' t.places t.locals t.tree) c
        (normal_step (database e.file) e.asked (room_of e.limits) (split token)) answer
    unfolding readied
    token-hypothesis {h} is offset pushes =
        let k = r.checked in
        let may = (prep.sensible e.symbols k.filed k.asked).hypothesis h is in
        let before = may.earlier in
        let asked = k.asked in
        record {
          sized = λ c' q. sized_on _ _ _ _ r.sized.seats refl refl refl r.sized.ranged (pushes.grows c' q);
          follows = λ m shown.
              ends_by (named m is shown) refl
              (pushes.follows e.statements e.asked e.text t.places t.locals t.tree h.0 m (filed-indexed k.filed) k.asked
              (rw offset (filed-located k.filed h.0 (omega arith))) may shown);
        }

    -- 26, 28, 25, 29, 30
    pub token-refused : {why : Refusal} → step ≡ Err why
        → Proceeds e t t c (normal_step (database e.file) e.asked (room_of e.limits) (split token)) (Err why)
    unfolding readied bind
    token-refused is =
        record {
          sized = λ c' q. let z : ◌≡◌ {A = ℕ} 0 1 = cc in absurd (omega arith);
          follows = λ m shown. ends_by (named m is shown) refl refuses;
        }

-- giving a local label uses no more of the pool
local-pool : (room : Room) (m : Memory) (label : Option (List ℕ)) → Gives (PoolIs m.pool) (give_local room m label)
unfolding give_local add_local
local-pool room m none = gives (record { is = refl })
local-pool room m (some label) = unless-gives _ _ (λ t. save-pool room (add_local m label) m.stack)

local-used : {b : Bench} {l l' : Lent} {c c' : Counts} {m m' : Memory} (room : Room) (label : Option (List ℕ)) → Shown b l c m → give_local room m label ≡ fine m'
    → Shown b l' c' m' → c.used ≡ c'.used
local-used {m = m} room label s e s' = sym s.pool ∙ (sym (given (local-pool room m label) e).is ∙ s'.pool)

-- a span with a tag stands for a part
marked-part : (text : List ℕ) (tag end : ℕ) → (tag ≡ 0 → ⊥) → mark_of text tag end ≡ some (range (tag - 1) end text)
unfolding mark_of
marked-part text zero end there = absurd (there refl)
marked-part text (suc n) end there = let h : suc n - 1 ≡ n = omega arith in rw h refl

relabelled : {w : ℕ} {t : Tables} {n : ℕ} (places locals : List ℕ) → Sized w t n → Sized w (with_labels t places locals) n
relabelled places locals s = record { seats = s.seats; froms = s.froms; tos = s.tos; sets = s.sets; ranged = s.ranged }

-- the label that a span stands for is given
given-it : {text : List ℕ} {part : Option (List ℕ)} {span : Span} {stack locals places locals' places' : List ℕ} {c : Counts} {limit : ℕ} {answer : Outcome} → StandsFor text part span → (span.tag ≡ 0 → ⊥)
    → GivesLocal text (span.tag - 1) span.end stack locals places c limit locals' places' answer
    → (e : Env) (t : Tables) (m : Memory) → Lends e t text stack places locals limit → Shown (bench_of e) (lent_of t) c m
    → Ends (Shown (bench_of e) (lent_of (with_labels t places' locals'))) (give_local (room_of e.limits) m part) answer
given-it {text} {span = span} stands there gives-it e t m lends shown =
    rw (← stands.is, marked-part text span.tag span.end there)
    (gives-it.follows (bench_of e) (lent_of t) m lends.text_is lends.limit_is lends.stack_is lends.locals_is lends.places_is shown)

module _ {text stack places locals : List ℕ} {from to : ℕ} {c : Counts} {limit done : ℕ} {span : Span} (stands : StandsFor text (split (range from to text)).local span) where
  -- no local label
  pub labels-none : span.tag ≡ 0 → LabelsStep text stack places locals from to c limit done places locals (Go Normal c done)
  unfolding machine.after_step mode_of mark_of give_local
  labels-none nothing =
      let none_is : none ≡ (split (range from to text)).local = rw nothing at stands.is in
      record {
        keeps = λ e t m steps few lends sized shown. keeps-go (relabelled places locals sized) normal few;
        follows = λ e t m next lends n shown.
            rw (← none_is, ← lends.places_is, ← lends.locals_is) (settled-go m.steps next Normal refl shown n);
      }

  -- a local label
  module _ {places' locals' : List ℕ} {answer : Outcome} (there : span.tag ≡ 0 → ⊥) (gives-it : GivesLocal text (span.tag - 1) span.end stack locals places c limit locals' places' answer) where
    pub labels-given : {c' : Counts} → answer ≡ Ok c' → LabelsStep text stack places locals from to c limit done places' locals' (Go Normal c' done)
    unfolding machine.after_step mode_of
    labels-given is =
        record {
          keeps = λ e t m steps few lends sized shown.
              let w = ends-go (rw is at (given-it stands there gives-it e t m lends shown)) in
              keeps-go (relabelled places' locals' (rw (local-used (room_of e.limits) _ shown w.1 w.2) at sized)) normal few;
          follows = λ e t m next lends n shown.
              let w = ends-go (rw is at (given-it stands there gives-it e t m lends shown)) in
              settled-go m.steps next Normal w.1 w.2 (steps-out (local-steps (room_of e.limits) m _) w.1 ∙ n);
        }

    pub labels-refused : {why : Refusal} → answer ≡ Err why → LabelsStep text stack places locals from to c limit done places' locals' (Stop why done)
    unfolding machine.after_step
    labels-refused is =
        record {
          keeps = λ e t m steps few lends sized shown. keeps-stop;
          follows = λ e t m next lends n shown. stopped next _ n (ends-refused (rw is at (given-it stands there gives-it e t m lends shown)));
        }

module _ {e : Env} {t : Tables} {c : Counts} (r : Running e t c) where
  -- what giving a local label asks for
  pub label-there : (((10 * e.limits.places ≤ length t.places) × (e.limits.places ≤ 4096)) × ((12288 ≤ length t.locals) × (c.depth ≤ 1024)))
      × ((c.locals ≤ c.places) × (c.places ≤ e.limits.places))
  label-there =
      let s = r.shown in
      let a = s.stack_few in
      let b = s.stack_limit in
      (((s.places_sized, s.places_limit), (s.locals_sized, omega arith)), (s.locals_few, s.places_few))

  module _ {from to steps : ℕ} where
    -- `?`
    pub normal-unknown : same (range from to e.text) question ≡ true → ReadsNormal e t t c from to steps (Stop ProofIncomplete steps)
    unfolding machine.on_normal machine.on_parts unless
    normal-unknown is =
        record { keeps = keeps-stop; follows = λ m next n shown. stopped next _ n (rw is refl) }

    module _ {t' : Tables} {outcome : Outcome} (known : same (range from to e.text) question ≡ false)
        (ran : Proceeds e t t' c (normal_step (database e.file) e.asked (room_of e.limits) (split (range from to e.text))) outcome) where
      -- the step is refused
      pub normal-refused : {why : Refusal} → outcome ≡ Err why → ReadsNormal e t t' c from to steps (Stop why steps)
      unfolding machine.on_normal machine.on_parts unless normal_step
      normal-refused is =
          record {
            keeps = keeps-stop;
            follows = λ m next n shown. rw known (stopped next _ n (ends-refused (rw is at (ran.follows m shown))));
          }

      -- it is completed
      pub normal-ran : {c' : Counts} {places' locals' : List ℕ} {answer : Read} → outcome ≡ Ok c'
          → LabelsStep e.text t'.stack t'.places t'.locals from to c' e.limits.places (steps + 1) places' locals' answer
          → ReadsNormal e t (with_labels t' places' locals') c from to steps answer
      unfolding machine.on_normal machine.on_parts unless normal_step machine.settle
      normal-ran {c'} is labels =
          let lends : Lends e t' e.text t'.stack t'.places t'.locals e.limits.places = record { text_is = refl; limit_is = refl; stack_is = refl; places_is = refl; locals_is = refl } in
          record {
            keeps =
                let w = ends-go (rw is at (ran.follows r.memory r.shown)) in
                labels.keeps e t' w.0 steps (omega arith) lends (ran.sized c' is) w.2;
            follows = λ m next n shown.
                let w = ends-go (rw is at (ran.follows m shown)) in
                let counted = steps-out (token-steps (database e.file) e.asked (room_of e.limits) m _) w.1 in
                rw (known, w.1) (labels.follows e t' w.0 next lends (omega arith) w.2);
          }
