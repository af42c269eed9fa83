-- The bytes one after another: so far the code stands where the definition stands, and what is left to read is what the whole reads (`SoFar`).
use Rattle.std.proofs.Common.{Ok, Err}
use Prim.Native.Nat.{ℕ, suc, ◌+◌, ◌≤◌, ◌<◌}
use mathlib.Core.Path.{◌≡◌, refl, sym, ◌∙◌, ap}
use mathlib.Core.List.{List, [], ◌∷◌}
use native.Mathlib.Omega.{arith}
use lib.ListN.{length, get_or, drop, drop_of_length-le}
use lib.Seq.{drop-cons}
use Rattle.frames.specs.Database.{Database, database}
use Rattle.machine.specs.Answer.{Answer, refused}
use Rattle.machine.specs.Memory.{Room, Memory}
use Rattle.machine.specs.Run as machine
use Rattle.packed.specs.Pool.{range}
use Rattle.memory.specs.declared.Counts.{Counts}
use Rattle.memory.specs.Shown.{Bench, Lent, room_of, Shown}
use Rattle.run_bytes.specs.declared.State.{State}
use Rattle.run_bytes.specs.declared.Stopped.{Stopped}
use Rattle.run.specs.Running.{Env, Tables, Running}
use Rattle.run.specs.Reads.{mode_of, Low}
use Rattle.run_bytes.specs.Bytes.{Stands, Alike, going, over, ReadsByte, ReadsText}

-- the tables are as long as they were
pub record SameSizes (t₀ t : Tables) : Type 0 where
  pub seats : length t.seats ≡ length t₀.seats
  pub froms : length t.froms ≡ length t₀.froms
  pub tos : length t.tos ≡ length t₀.tos
  pub sets : length t.sets ≡ length t₀.sets
  pub numbers : length t.numbers ≡ length t₀.numbers
  pub pool : length t.pool ≡ length t₀.pool
  pub stack : length t.stack ≡ length t₀.stack
  pub places : length t.places ≡ length t₀.places
  pub locals : length t.locals ≡ length t₀.locals
  pub tree : length t.tree ≡ length t₀.tree

-- so far: the code stands where the definition stands, and what is left to read is what the whole reads
pub record SoFar (e : Env) (t₀ t : Tables) (s₀ s : State) (i : ℕ) : Type 0 where
  pub running : Running e t s.counts
  pub low : Low s.mode
  pub few : s.steps ≤ i
  pub begun : s.token ≤ i
  pub within : i ≤ length e.text
  pub sizes : SameSizes t₀ t
  pub follows : (d₀ : machine.Standing) → Stands e t₀ s₀ 0 d₀
      → (d : machine.Standing) × Stands e t s i d
      × (machine.on_bytes (database e.file) e.asked (room_of e.limits) (machine.going d₀) e.text
      ≡ machine.on_bytes (database e.file) e.asked (room_of e.limits) (machine.going d) (drop i e.text))

pub so-far-none : {e : Env} {t : Tables} {s : State} → Running e t s.counts → Low s.mode → s.steps ≡ 0 → s.token ≡ 0 → SoFar e t t s s 0
so-far-none r l n b =
    record { running = r; low = l; few = omega arith; begun = omega arith; within = omega arith; sizes = record { seats = refl; froms = refl; tos = refl; sets = refl; numbers = refl; pool = refl; stack = refl; places = refl; locals = refl; tree = refl }; follows = λ d st. (d, st, refl) }

-- the tables do not tell the steps (they bound them and the hypotheses consumed from below)
with_steps : Memory → ℕ → Memory
with_steps m n =
    record { variables = m.variables; pool = m.pool; places = m.places; locals = m.locals; stack = m.stack; steps = n; consumed = m.steps + m.consumed }

restep : {b : Bench} {l : Lent} {c : Counts} {m : Memory} (n : ℕ) → Shown b l c m → Shown b l c (with_steps m n)
unfolding with_steps
restep n s =
    record {
      numbered = s.numbered;
      variables_few = s.variables_few;
      begun = s.begun;
      mandatory_known = s.mandatory_known;
      numbers_sized = s.numbers_sized;
      pool = s.pool;
      pool_few = s.pool_few;
      pool_sized = s.pool_sized;
      stack = s.stack;
      stack_few = s.stack_few;
      stack_limit = s.stack_limit;
      stack_sized = s.stack_sized;
      places = s.places;
      placed = s.placed;
      places_few = s.places_few;
      places_limit = s.places_limit;
      places_sized = s.places_sized;
      locals = s.locals;
      locals_few = s.locals_few;
      locals_sized = s.locals_sized;
      tree_limit = s.tree_limit;
      nodes_few = let f = s.nodes_few in omega arith;
      derivations = s.derivations;
    }

-- somewhere the definition stands where the code stands
somewhere : {e : Env} {t : Tables} {s : State} (at : ℕ) → Running e t s.counts → (d : machine.Standing) × Stands e t s at d
unfolding with_steps
somewhere {e} {t} {s} at r = (
  record { memory = with_steps r.memory s.steps; mode = mode_of s.mode; token = range s.token at e.text; at = at },
  record { shown = restep s.steps r.shown; steps = refl; mode = refl; token = refl; place = refl },
)

-- what goes on, and what is over
pub alike-going : {e : Env} {t : Tables} {at : ℕ} {state : machine.State} {s : State} → Alike e t at state (Ok s) → (d : machine.Standing) × (state ≡ machine.going d) × Stands e t s at d
alike-going (going {d = d} st) = (d, refl, st)

pub over-bytes : (db : Database) (p : ℕ) (room : Room) (a : Answer) (bs : List ℕ) → machine.on_bytes db p room (machine.over a) bs ≡ machine.over a
unfolding machine.on_bytes machine.on_byte
over-bytes db p room a [] = refl
over-bytes db p room a (b ∷ bs) = over-bytes db p room a bs

on-cons : (db : Database) (p : ℕ) (room : Room) (s : machine.State) (b : ℕ) (bs : List ℕ) → machine.on_bytes db p room s (b ∷ bs) ≡ machine.on_bytes db p room (machine.on_byte db p room s b) bs
unfolding machine.on_bytes
on-cons db p room s b bs = refl

pub alike-over : {e : Env} {t : Tables} {at : ℕ} {state : machine.State} {x : Stopped} → Alike e t at state (Err x) → state ≡ machine.over (refused x.why x.place x.steps)
alike-over over = refl

module _ {e : Env} {t₀ t : Tables} {s₀ s : State} {i b : ℕ} (so : SoFar e t₀ t s₀ s i) (more : i < length e.text) (b-is : b ≡ get_or e.text i 0) where
  left_is : drop i e.text ≡ b ∷ drop (i + 1) e.text
  left_is =
      let one : i + 1 ≡ suc i = omega arith in
      drop-cons e.text i 0 more ∙ (ap (λ (x : ℕ). x ∷ drop (suc i) e.text) (sym b-is) ∙ ap (λ (n : ℕ). b ∷ drop n e.text) (sym one))

  unrolled : (d : machine.Standing) → machine.on_bytes (database e.file) e.asked (room_of e.limits) (machine.going d) (drop i e.text)
      ≡ machine.on_bytes (database e.file) e.asked (room_of e.limits) (machine.on_byte (database e.file) e.asked (room_of e.limits) (machine.going d) b) (drop (i + 1) e.text)
  unrolled d =
      ap (λ (l : List ℕ). machine.on_bytes (database e.file) e.asked (room_of e.limits) (machine.going d) l) left_is
      ∙ on-cons (database e.file) e.asked (room_of e.limits) (machine.going d) b (drop (i + 1) e.text)

  -- one byte more
  pub so_far_more : {t' : Tables} {s' : State} → SameSizes t t' → ReadsByte e t t' s i b (Ok s') → SoFar e t₀ t' s₀ s' (i + 1)
  so_far_more {t'} {s'} same-sizes byte =
      let here = somewhere {e = e} {t = t} {s = s} i so.running in
      let now = alike-going (byte.follows here.0 here.1) in
      record {
        running = record { checked = so.running.checked; sized = byte.keeps.sized s' refl; memory = now.0.memory; shown = now.2.shown };
        low = byte.keeps.low s' refl;
        few = let f = byte.keeps.few s' refl in let g = so.few in omega arith;
        begun = byte.keeps.begun s' refl;
        within = omega arith;
        sizes =
            record {
              seats = same-sizes.seats ∙ so.sizes.seats;
              froms = same-sizes.froms ∙ so.sizes.froms;
              tos = same-sizes.tos ∙ so.sizes.tos;
              sets = same-sizes.sets ∙ so.sizes.sets;
              numbers = same-sizes.numbers ∙ so.sizes.numbers;
              pool = same-sizes.pool ∙ so.sizes.pool;
              stack = same-sizes.stack ∙ so.sizes.stack;
              places = same-sizes.places ∙ so.sizes.places;
              locals = same-sizes.locals ∙ so.sizes.locals;
              tree = same-sizes.tree ∙ so.sizes.tree;
            };
        follows = λ d₀ st₀.
            let w = so.follows d₀ st₀ in
            let v = alike-going (byte.follows w.0 w.1) in
            (v.0, v.2, w.2 ∙ (unrolled w.0 ∙ ap (λ (x : machine.State). machine.on_bytes (database e.file) e.asked (room_of e.limits) x (drop (i + 1) e.text)) v.1));
      }

  -- the run is over
  pub so-far-over : {t' : Tables} {x : Stopped} → ReadsByte e t t' s i b (Err x) → ReadsText e t₀ t' s₀ (Err x)
  so-far-over {t'} {x} byte =
      record {
        running = λ s' q. let z : ◌≡◌ {A = ℕ} 0 1 = cc in absurd (omega arith);
        low = λ s' q. let z : ◌≡◌ {A = ℕ} 0 1 = cc in absurd (omega arith);
        few = λ s' q. let z : ◌≡◌ {A = ℕ} 0 1 = cc in absurd (omega arith);
        begun = λ s' q. let z : ◌≡◌ {A = ℕ} 0 1 = cc in absurd (omega arith);
        follows = λ d₀ st₀.
            let w = so.follows d₀ st₀ in
            let v = alike-over (byte.follows w.0 w.1) in
            let path = w.2 ∙ (unrolled w.0 ∙ (ap (λ (y : machine.State). machine.on_bytes (database e.file) e.asked (room_of e.limits) y (drop (i + 1) e.text)) v
            ∙ over-bytes (database e.file) e.asked (room_of e.limits) (refused x.why x.place x.steps) (drop (i + 1) e.text))) in
            rw path over;
      }

-- all is read
pub so-far-done : {e : Env} {t₀ t : Tables} {s₀ s : State} {i : ℕ} → SoFar e t₀ t s₀ s i → length e.text ≤ i → ReadsText e t₀ t s₀ (Ok s)
unfolding machine.on_bytes
so-far-done {e} {t₀} {t} {s₀} {s} {i} so all =
    record {
      running = λ s' q. let same : s' ≡ s = cc in rw same so.running;
      low = λ s' q. let same : s' ≡ s = cc in rw same so.low;
      few = λ s' q. let same : s' ≡ s = cc in let f = so.few in let w = so.within in rw same (omega arith);
      begun = λ s' q. let same : s' ≡ s = cc in let f = so.begun in let w = so.within in rw same (omega arith);
      follows = λ d₀ st₀.
          let w = so.follows d₀ st₀ in
          let i-is : i ≡ length e.text = (let x = so.within in omega arith) in
          rw (w.2, drop_of_length-le e.text all) (going (rw i-is at w.1));
    }
