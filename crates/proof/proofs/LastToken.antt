-- The last token, and then the findings.
use Rattle.std.proofs.Common.{Err}
use Prim.Native.Nat.{ℕ, ◌-◌, ◌<◌}
use mathlib.Core.Path.{◌≡◌, refl, sym, ◌∙◌, ap}
use mathlib.Core.List.{List, []}
use native.Mathlib.Omega.{arith}
use lib.ListN.{length, get_or}
use Rattle.frames.specs.Database.{Database, database}
use Rattle.machine.specs.declared.Refusal.{Refusal}
use Rattle.machine.specs.Answer.{refused}
use Rattle.machine.specs.Memory.{Room, Memory}
use Rattle.machine.specs.Run as machine
use Rattle.packed.specs.Pool.{range}
use Rattle.packed.specs.Lists.{Located}
use Rattle.packed.proofs.Written.{range_length}
use Rattle.resolve.specs.Filed.{Filed}
use Rattle.resolve.proofs.Filing.{filed-located}
use Rattle.memory.specs.declared.Counts.{Counts}
use Rattle.memory.specs.Shown.{room_of, Shown}
use Rattle.run.specs.declared.Mode.{Mode}
use Rattle.run.specs.Read.{Read, Go, Stop}
use Rattle.run_bytes.specs.declared.State.{State}
use Rattle.run.specs.Running.{Env, Tables, Running, bench_of, lent_of}
use Rattle.run.specs.Reads.{mode_of, Reads, goes, stops}
use Rattle.run_tokens.specs.Tokens.{ReadsToken}
use Rattle.run_bytes.specs.Bytes.{Stands}
use Rattle.run_bytes.proofs.Byting.{range_none, end-token}
use Rattle.findings.specs.Answers.{Answer}
use Rattle.findings.specs.Tells.{refuses, Closes}
use Rattle.findings.proofs.Finishing.{tells-same}
use Rattle.proof.specs.Whole.{EndsText}

-- no token is there
end_none : (db : Database) (p : ℕ) (room : Room) (m : Memory) (mode : machine.Mode) (at : ℕ) (token : List ℕ) (next : machine.Mode → Memory → machine.State) → token ≡ []
    → machine.end_token db p room m mode at token next ≡ next mode m
unfolding machine.end_token
end_none db p room m mode at token next e = rw e refl

on-end : (db : Database) (p : ℕ) (room : Room) (d : machine.Standing)
    → machine.on_end db p room (machine.going d) ≡ machine.end_token db p room d.memory d.mode d.at d.token (machine.finish db p d.at)
unfolding machine.on_end
on-end db p room d = refl

-- what a token's reading tells
read-go : {e : Env} {t : Tables} {place : ℕ} {next : machine.Mode → Memory → machine.State} {state : machine.State} {mode : Mode} {c : Counts} {steps : ℕ} → Reads e t place next state (Go mode c steps)
    → (m : Memory) × (state ≡ next (mode_of mode) m) × Shown (bench_of e) (lent_of t) c m × (m.steps ≡ steps)
read-go (goes {m = m} s n) = (m, refl, s, n)

read-stop : {e : Env} {t : Tables} {place : ℕ} {next : machine.Mode → Memory → machine.State} {state : machine.State} {why : Refusal} {steps : ℕ} → Reads e t place next state (Stop why steps)
    → state ≡ machine.over (refused why place steps)
read-stop stops = refl

-- the record of the claim is where the index says
pub there : {f syms stmts : List ℕ} {p at : ℕ} → Filed f syms stmts → p < length (database f).statements → at ≡ get_or stmts p 0 → Located f p at
there {p = p} filed asked at-is = rw at-is (filed-located filed p asked)

module _ {e : Env} {t : Tables} {s : State} (r : Running e t s.counts) {at : ℕ} (at-is : at ≡ get_or e.statements e.asked 0) where
  -- no token is open
  pub ends-none : {answer : Answer} → s.token ≡ length e.text
      → Closes e.file e.symbols at t.stack t.pool s.counts s.mode (length e.text) s.steps answer → EndsText e t t.tree s answer
  ends-none none closes =
      record {
        tells = λ d st.
            let empty = st.token ∙ (ap (λ (n : ℕ). range n (length e.text) e.text) none ∙ sym (range_none (length e.text) e.text)) in
            tells-same
            (on-end (database e.file) e.asked (room_of e.limits) d
            ∙ (end_none (database e.file) e.asked (room_of e.limits) d.memory d.mode d.at d.token (machine.finish (database e.file) e.asked d.at) empty
            ∙ (ap (λ (n : ℕ). machine.finish (database e.file) e.asked n d.mode d.memory) st.place
            ∙ ap (λ (mode : machine.Mode). machine.finish (database e.file) e.asked (length e.text) mode d.memory) st.mode)))
            (closes.tells e t d.memory refl refl refl r.checked.filed (there r.checked.filed r.checked.asked at-is) st.steps st.shown);
      }

  -- the last token is whole
  module _ (some : s.token < length e.text) where
    judged : {t' : Tables} {read : Read} → ReadsToken e t t' s.counts s.mode s.token (length e.text) s.steps read → (d : machine.Standing) → Stands e t s (length e.text) d
        → Reads e t' s.token (machine.finish (database e.file) e.asked (length e.text)) (machine.on_end (database e.file) e.asked (room_of e.limits) (machine.going d)) read
    judged reads d st =
        let size = range_length s.token (length e.text) e.text (omega arith) (omega arith) in
        let from_is : length e.text - length (range s.token (length e.text) e.text) ≡ s.token = omega arith in
        rw (
          on-end (database e.file) e.asked (room_of e.limits) d,
          st.place,
          st.token,
          st.mode,
          end-token (database e.file) e.asked (room_of e.limits) d.memory (mode_of s.mode) (length e.text) (range s.token (length e.text) e.text) (machine.finish (database e.file) e.asked (length e.text)) (omega arith),
          from_is,
        )
        (reads.follows d.memory (machine.finish (database e.file) e.asked (length e.text)) st.steps st.shown)

    pub ends-go : {t' : Tables} {mode : Mode} {c : Counts} {steps : ℕ} {answer : Answer}
        → ReadsToken e t t' s.counts s.mode s.token (length e.text) s.steps (Go mode c steps)
        → Closes e.file e.symbols at t'.stack t'.pool c mode (length e.text) steps answer → EndsText e t t'.tree s answer
    ends-go {t'} reads closes =
        record {
          tells = λ d st.
              let w = read-go (judged reads d st) in
              tells-same w.1 (closes.tells e t' w.0 refl refl refl r.checked.filed (there r.checked.filed r.checked.asked at-is) w.3 w.2);
        }

    pub ends-stop : {t' : Tables} {why : Refusal} {steps : ℕ} → ReadsToken e t t' s.counts s.mode s.token (length e.text) s.steps (Stop why steps)
        → EndsText e t t'.tree s (Err (record { why = why; place = s.token; steps = steps }))
    ends-stop reads = record { tells = λ d st. tells-same (read-stop (judged reads d st)) refuses }
