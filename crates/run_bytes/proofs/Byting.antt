-- A byte: a letter is judged at once, a token at the divider after it, any other byte is one more of its token.
use Rattle.std.proofs.Common.{Ok, Err}
use Prim.Native.Nat.{ℕ, suc, ◌+◌, ◌-◌, ◌≤◌, ◌<◌}
use mathlib.Core.Path.{◌≡◌, refl, sym, ◌∙◌, ap}
use mathlib.Core.Bool.{Bool, true, false}
use mathlib.Core.List.{List, [], ◌∷◌, ◌++◌}
use native.Mathlib.Omega.{arith}
use lib.ListN.{length, get_or, take, drop, length-drop}
use lib.Seq.{get_or-drop}
use Rattle.frames.specs.Logic.{pick}
use Rattle.frames.specs.Database.{Database, database}
use Rattle.machine.specs.declared.Refusal.{Refusal}
use Rattle.machine.specs.Reading.{divider, letter}
use Rattle.machine.specs.Memory.{Room, Memory}
use Rattle.machine.specs.Run as machine
use Rattle.packed.specs.Pool.{range}
use Rattle.packed.proofs.Written.{take-one-more, range_length}
use Rattle.memory.specs.declared.Counts.{Counts}
use Rattle.memory.specs.Shown.{room_of, Shown}
use Rattle.run.specs.declared.Mode.{Mode}
use Rattle.run.specs.declared.Mode.TheVariants.{Beginning, Normal, Roster, Letters}
use Rattle.run.specs.Read.{Read, Go, Stop}
use Rattle.run.proofs.Parts.{go-parts, stop-parts}
use Rattle.run_bytes.specs.declared.State.{State}
use Rattle.run_bytes.specs.Next.{Next}
use Rattle.run.specs.Running.{Env, Tables, Sized, bench_of, lent_of, width_of}
use Rattle.run.specs.Reads as low-as
use Rattle.run.specs.Reads.{mode_of, Low, Reads, goes, stops, Keeps}
use Rattle.run.specs.Letters.{ReadsLetter}
use Rattle.run_bytes.specs.Bytes.{Alike, going, over, After, ReadsByte, Plain, beginning, normal, roster}

-- nothing is read of an empty range
pub range_none : (at : ℕ) (text : List ℕ) → [] ≡ range at at text
unfolding range
range_none at text = let z : at - at ≡ 0 = omega arith in rw z refl

module _ {at place : ℕ} where
  pub after-go : {mode : Mode} {c : Counts} {steps : ℕ} → After (Go mode c steps) at place (Ok (record { mode = mode; token = at + 1; steps = steps; counts = c }))
  unfolding machine.go_on
  after-go {mode} {c} {steps} =
      record {
        keeps = λ w t n k.
            record {
              sized = λ s e. let same : s ≡ record { mode = mode; token = at + 1; steps = steps; counts = c } = cc in rw same (k.sized mode c steps refl);
              low = λ s e. let same : s ≡ record { mode = mode; token = at + 1; steps = steps; counts = c } = cc in rw same (k.low mode c steps refl);
              few = λ s e. let same : s ≡ record { mode = mode; token = at + 1; steps = steps; counts = c } = cc in rw same (k.few mode c steps refl);
              begun = λ s e. let same : s ≡ record { mode = mode; token = at + 1; steps = steps; counts = c } = cc in rw same (omega arith);
            };
        alike = λ e t state r. gone e t r refl;
      }
    where
      gone : (e : Env) (t : Tables) {state : machine.State} {read : Read} → Reads e t place (machine.go_on at) state read → read ≡ Go mode c steps
          → Alike e t (at + 1) state (Ok (record { mode = mode; token = at + 1; steps = steps; counts = c }))
      gone e t (goes {mode = mode'} {c = c'} {steps = steps'} s n) is =
          let parts = go-parts is in
          let a : mode' ≡ mode = parts.0 in
          let b : c' ≡ c = parts.1 in
          let d : steps' ≡ steps = parts.2 in
          let suc-is : suc at ≡ at + 1 = omega arith in
          going (record { shown = rw b at s; steps = n ∙ d; mode = ap mode_of a; token = range_none (at + 1) e.text; place = suc-is })
      gone e t stops is = let z : ◌≡◌ {A = ℕ} 0 1 = cc in absurd (omega arith)

  pub after_stop : {why : Refusal} {steps : ℕ} → After (Stop why steps) at place (Err (record { why = why; place = place; steps = steps }))
  after_stop {why} {steps} =
      record {
        keeps = λ w t n k.
            record {
              sized = λ s e. let z : ◌≡◌ {A = ℕ} 0 1 = cc in absurd (omega arith);
              low = λ s e. let z : ◌≡◌ {A = ℕ} 0 1 = cc in absurd (omega arith);
              few = λ s e. let z : ◌≡◌ {A = ℕ} 0 1 = cc in absurd (omega arith);
              begun = λ s e. let z : ◌≡◌ {A = ℕ} 0 1 = cc in absurd (omega arith);
            };
        alike = λ e t state r. gone e t r refl;
      }
    where
      gone : (e : Env) (t : Tables) {state : machine.State} {read : Read} → Reads e t place (machine.go_on at) state read → read ≡ Stop why steps
          → Alike e t (at + 1) state (Err (record { why = why; place = place; steps = steps }))
      gone e t (goes s n) is = let z : ◌≡◌ {A = ℕ} 0 1 = cc in absurd (omega arith)
      gone e t (stops {why = why'} {steps = steps'}) is =
          let parts = stop-parts is in
          let a : why' ≡ why = parts.0 in
          let b : steps' ≡ steps = parts.1 in
          rw (a, b) over

-- one byte more of a range
range-more : (from at : ℕ) (text : List ℕ) → from ≤ at → at < length text → range from (at + 1) text ≡ range from at text ++ (get_or text at 0 ∷ [])
unfolding range
range-more from at text low high =
    let e : at + 1 - from ≡ at - from + 1 = omega arith in
    let f : from + (at - from) ≡ at = omega arith in
    ap (λ (n : ℕ). take n (drop from text)) e
    ∙ (take-one-more (drop from text) (at - from) (rw length-drop (omega arith))
    ∙ ap (λ (b : ℕ). take (at - from) (drop from text) ++ (b ∷ [])) (get_or-drop from text (at - from) 0 ∙ ap (λ (n : ℕ). get_or text n 0) f))

mode_of-letters : (k : ℕ) (saves : Bool) → mode_of (Letters k saves) ≡ machine.in_letters k saves
unfolding mode_of
mode_of-letters k saves = refl

-- a letter
pub letter-byte : {e : Env} {t t' : Tables} {s : State} {k at b : ℕ} {saves : Bool} {read : Read} {answer : Next} → s.mode ≡ Letters k saves
    → ReadsLetter e t t' s.counts k saves s.steps (letter b) read → After read at at answer → ReadsByte e t t' s at b answer
unfolding machine.on_byte machine.by_mode
letter-byte {e} {t} {t'} {s} {k} {at} {b} {saves} mode reads next =
    record {
      keeps = next.keeps (width_of e) t' s.steps reads.keeps;
      follows = λ d st.
          rw (st.mode ∙ (ap mode_of mode ∙ letters-mode), st.place) (next.alike e t' _ (reads.follows d.memory at st.steps st.shown));
    }
  where
    letters-mode : mode_of (Letters k saves) ≡ machine.in_letters k saves
    letters-mode = mode_of-letters k saves

-- a mode that is not that of the letters is before them
pub plain-else : (mode : Mode) → ((k : ℕ) (saves : Bool) → mode ≡ Letters k saves → ⊥) → Plain mode
plain-else Beginning other = beginning
plain-else Normal other = normal
plain-else Roster other = roster
plain-else (Letters k saves) other = absurd (other k saves refl)

-- before the letters a byte is one more of the token, or a divider
by-plain : (db : Database) (p : ℕ) (room : Room) (m : Memory) {mode : Mode} (token : List ℕ) (at b : ℕ) → Plain mode
    → machine.by_mode db p room m (mode_of mode) token at b ≡ machine.on_plain db p room m (mode_of mode) token at b
unfolding machine.by_mode mode_of
by-plain db p room m token at b beginning = refl
by-plain db p room m token at b normal = refl
by-plain db p room m token at b roster = refl

module _ {e : Env} {t : Tables} {s : State} {at b : ℕ} (plain : Plain s.mode) (low : Low s.mode) (z : Sized (width_of e) t s.counts.used) (before : s.token ≤ at) where
  -- one more of the token
  pub plain_more : divider b ≡ false → at < length e.text → b ≡ get_or e.text at 0 → ReadsByte e t t s at b (Ok s)
  unfolding machine.on_byte machine.on_plain pick
  plain_more other inside is =
      record {
        keeps =
            record {
              sized = λ s' q. let same : s' ≡ s = cc in rw same z;
              low = λ s' q. let same : s' ≡ s = cc in rw same low;
              few = λ s' q. let same : s' ≡ s = cc in rw same (omega arith);
              begun = λ s' q. let same : s' ≡ s = cc in rw same (omega arith);
            };
        follows = λ d st.
            let next_place : suc d.at ≡ at + 1 = (let q = st.place in omega arith) in
            rw (st.mode, by-plain (database e.file) e.asked (room_of e.limits) d.memory d.token d.at b plain, other)
            (going
            (record {
              shown = st.shown;
              steps = st.steps;
              mode = refl;
              token = ap (λ (l : List ℕ). l ++ (b ∷ [])) st.token ∙ (ap (λ (x : ℕ). range s.token at e.text ++ (x ∷ [])) is ∙ sym (range-more s.token at e.text before inside));
              place = next_place;
            }));
      }

  -- a divider with no token before it
  pub plain-none : divider b ≡ true → s.token ≡ at → ReadsByte e t t s at b (Ok (record { mode = s.mode; token = at + 1; steps = s.steps; counts = s.counts }))
  unfolding machine.on_byte machine.on_plain machine.end_token machine.go_on pick
  plain-none divides none =
      record {
        keeps =
            record {
              sized = λ s' q. let same : s' ≡ record { mode = s.mode; token = at + 1; steps = s.steps; counts = s.counts } = cc in rw same z;
              low = λ s' q. let same : s' ≡ record { mode = s.mode; token = at + 1; steps = s.steps; counts = s.counts } = cc in rw same low;
              few = λ s' q. let same : s' ≡ record { mode = s.mode; token = at + 1; steps = s.steps; counts = s.counts } = cc in rw same (omega arith);
              begun = λ s' q. let same : s' ≡ record { mode = s.mode; token = at + 1; steps = s.steps; counts = s.counts } = cc in rw same (omega arith);
            };
        follows = λ d st.
            let next_place : suc d.at ≡ at + 1 = (let q = st.place in omega arith) in
            rw (st.mode, by-plain (database e.file) e.asked (room_of e.limits) d.memory d.token d.at b plain, divides, st.token, none, sym (range_none at e.text))
            (going (record { shown = st.shown; steps = st.steps; mode = refl; token = range_none (at + 1) e.text; place = next_place }));
      }

-- a token that is there is judged
pub end-token : (db : Database) (p : ℕ) (room : Room) (m : Memory) (mode : machine.Mode) (at : ℕ) (token : List ℕ) (next : machine.Mode → Memory → machine.State) → 1 ≤ length token
    → machine.end_token db p room m mode at token next ≡ machine.on_token db p room m mode (at - length token) token next
unfolding machine.end_token
end-token db p room m mode at [] next some = absurd (omega arith)
end-token db p room m mode at (b ∷ bs) next some = refl

-- a divider with a token before it
pub plain-token : {e : Env} {t t' : Tables} {s : State} {at b : ℕ} {read : Read} {answer : Next} → Plain s.mode → divider b ≡ true → s.token < at → at ≤ length e.text
    → ((m : Memory) (next : machine.Mode → Memory → machine.State) → m.steps ≡ s.steps → Shown (bench_of e) (lent_of t) s.counts m
    → Reads e t' s.token next (machine.on_token (database e.file) e.asked (room_of e.limits) m (mode_of s.mode) s.token (range s.token at e.text) next) read)
    → Keeps (width_of e) t' s.steps read → After read at s.token answer → ReadsByte e t t' s at b answer
unfolding machine.on_byte machine.on_plain pick
plain-token {e} {t} {t'} {s} {at} {b} plain divides some inside reads keeps next =
    record {
      keeps = next.keeps (width_of e) t' s.steps keeps;
      follows = λ d st.
          let size = range_length s.token at e.text (omega arith) inside in
          let from_is : at - length (range s.token at e.text) ≡ s.token = omega arith in
          let whole = end-token (database e.file) e.asked (room_of e.limits) d.memory (mode_of s.mode) at (range s.token at e.text) (machine.go_on at) (omega arith) in
          rw (st.mode, by-plain (database e.file) e.asked (room_of e.limits) d.memory d.token d.at b plain, divides, st.token, st.place, whole, from_is)
          (next.alike e t' _ (reads d.memory (machine.go_on at) st.steps st.shown));
    }

-- k is below its limit in the letters
pub low-letters : {mode : Mode} {k : ℕ} {saves : Bool} → Low mode → mode ≡ Letters k saves → k < machine.k_limit
low-letters {k = k} (low-as.letters {k = k'} l) e = let same : k' ≡ k = cc in rw same at l
low-letters low-as.beginning e = let z : ◌≡◌ {A = ℕ} 0 1 = cc in absurd (omega arith)
low-letters low-as.normal e = let z : ◌≡◌ {A = ℕ} 0 1 = cc in absurd (omega arith)
low-letters low-as.roster e = let z : ◌≡◌ {A = ℕ} 0 1 = cc in absurd (omega arith)
