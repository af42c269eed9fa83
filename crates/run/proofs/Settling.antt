-- What is settled: a result goes on as the rest says, or is refused at its place; and what is kept.
use Prim.Native.Nat.{ℕ, ◌+◌, ◌≤◌}
use mathlib.Core.Path.{◌≡◌, refl, sym}
use mathlib.Core.List.{List, [], ◌∷◌}
use native.Mathlib.Omega.{arith}
use Rattle.machine.specs.declared.Refusal.{Refusal}
use Rattle.machine.specs.Chain.{Result, fine, stop}
use Rattle.machine.specs.Memory.{Room, Entry, Memory, add_place, save_top}
use Rattle.machine.specs.Run as machine
use Rattle.machine.proofs.Gives.{Gives, gives, unless-gives}
use Rattle.machine.proofs.Gives as Gives-as
use Rattle.memory.specs.declared.Counts.{Counts}
use Rattle.memory.specs.Shown.{Shown}
use Rattle.run.specs.declared.Mode.{Mode}
use Rattle.run.specs.Read.{Go, Stop}
use Rattle.run.proofs.Parts.{go-parts}
use Rattle.run.specs.Running.{Env, Tables, Sized, bench_of, lent_of}
use Rattle.run.specs.Reads.{mode_of, Low, Reads, goes, stops, Keeps}

-- a result that is settled: it goes on, or is refused there
pub settled-go : {e : Env} {t : Tables} {place steps' : ℕ} {m : Memory} {c : Counts} {r : Result Memory} (steps : ℕ) (next : machine.Mode → Memory → machine.State) (mode : Mode)
    → r ≡ fine m → Shown (bench_of e) (lent_of t) c m → m.steps ≡ steps'
    → Reads e t place next (machine.settle r place steps (next (mode_of mode))) (Go mode c steps')
unfolding machine.settle
settled-go steps next mode e s n = rw e (goes s n)

pub settled-stop : {e : Env} {t : Tables} {place steps : ℕ} {why : Refusal} {r : Result Memory} (next : machine.Mode → Memory → machine.State) (after : Memory → machine.State) → r ≡ stop why
    → Reads e t place next (machine.settle r place steps after) (Stop why steps)
unfolding machine.settle
settled-stop next after e = rw e stops

-- the same, where the count of steps is known
pub stopped : {e : Env} {t : Tables} {place n steps : ℕ} {why : Refusal} {r : Result Memory} (next : machine.Mode → Memory → machine.State) (after : Memory → machine.State) → n ≡ steps → r ≡ stop why
    → Reads e t place next (machine.settle r place n after) (Stop why steps)
stopped next after n e = rw n (settled-stop next after e)

-- an answer that stops keeps nothing
pub keeps-stop : {n : ℕ} {t : Tables} {steps steps' : ℕ} {why : Refusal} → Keeps n t steps (Stop why steps')
keeps-stop =
    record {
      sized = λ mode c s e. let z : ◌≡◌ {A = ℕ} 0 1 = cc in absurd (omega arith);
      low = λ mode c s e. let z : ◌≡◌ {A = ℕ} 0 1 = cc in absurd (omega arith);
      few = λ mode c s e. let z : ◌≡◌ {A = ℕ} 0 1 = cc in absurd (omega arith);
    }

-- one that goes on keeps the tables, a low k and the count of steps
pub keeps-go : {n : ℕ} {t : Tables} {steps steps' : ℕ} {mode : Mode} {c : Counts} → Sized n t c.used → Low mode → steps' ≤ steps + 1 → Keeps n t steps (Go mode c steps')
keeps-go {n} {t} {steps} {steps'} {mode} {c} s l f =
    record {
      sized = λ mode'' c'' s'' e. let same : c'' ≡ c = sym (go-parts e).1 in rw same s;
      low = λ mode'' c'' s'' e. let same : mode'' ≡ mode = sym (go-parts e).0 in rw same l;
      few = λ mode'' c'' s'' e. let same : s'' ≡ steps' = sym (go-parts e).2 in omega arith;
    }

-- saving leaves the pool as it is
pub record PoolIs (n : ℕ) (m : Memory) : Type 0 where
  pub is : m.pool ≡ n

pub save-pool : (room : Room) (m : Memory) (es : List Entry) → Gives (PoolIs m.pool) (save_top room m es)
unfolding save_top add_place
save-pool room m [] = Gives-as.stops
save-pool room m (top ∷ left) = unless-gives _ _ (λ t. gives (record { is = refl }))
