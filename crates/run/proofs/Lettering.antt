-- The letters that run no step: what each does is what the definition does; and the digits of letters.
use Rattle.std.proofs.Common.{Ok, Err}
use Prim.Native.Nat.{ℕ, ◌+◌, ◌-◌, ◌*◌, ◌≤◌, ◌<◌}
use mathlib.Core.Path.{◌≡◌, refl, sym, ◌∙◌}
use mathlib.Core.Bool.{Bool, true, false}
use mathlib.Core.List.{List}
use native.Mathlib.Omega.{arith}
use Rattle.frames.specs.Logic.{at_most, equal, both, no, pick}
use Rattle.frames.proofs.Chains.{below-yes, below-no, no-of-true, no-of-false, at_most-true}
use Rattle.frames.proofs.Tells.{both_true}
use Rattle.machine.specs.declared.Refusal.{Refusal}
use Rattle.machine.specs.declared.Refusal.TheVariants.{ProofMalformedVarint, ProofInvalidSave, ProofIncomplete}
use Rattle.machine.specs.Reading.{letter}
use Rattle.machine.specs.declared.Letter.TheVariants.{Last, Higher, Save, Incomplete, Ignored}
use Rattle.machine.specs.Chain.{unless}
use Rattle.machine.specs.Answer.{refused}
use Rattle.machine.specs.Memory.{Memory}
use Rattle.machine.specs.Run as machine
use Rattle.machine.proofs.Stepped.{given, steps-out, save-steps}
use Rattle.memory.specs.declared.Counts.{Counts}
use Rattle.memory.specs.Shown.{SavesTop}
use Rattle.memory.proofs.Ending.{ends-go, ends-refused}
use Rattle.apply.proofs.OneHyp.{ranged-more}
use Rattle.run.specs.declared.Mode.TheVariants.{Letters}
use Rattle.run.specs.Read.{Go, Stop}
use Rattle.run.specs.Running.{Env, Tables, bench_of, lent_of}
use Rattle.run.specs.Reads.{mode_of, letters, Reads, goes, stops}
use Rattle.run.proofs.Settling.{settled-go, stopped, keeps-stop, keeps-go, save-pool}
use Rattle.run.specs.Letters.{HigherLetter, SaveLetter, IncompleteLetter, IgnoredLetter}

-- a refusal at its place, where the count of steps is known
refused-there : {e : Env} {t : Tables} {place n steps : ℕ} {why : Refusal} {next : machine.Mode → Memory → machine.State} → n ≡ steps
    → Reads e t place next (machine.over (refused why place n)) (Stop why steps)
refused-there n = rw n stops

-- `U`..`Y`
pub higher-go : {c : Counts} {k d steps : ℕ} → 5 * k + d < machine.k_limit → HigherLetter c k d steps (Go (Letters (5 * k + d) false) c steps)
unfolding machine.on_letter unless mode_of
higher-go few =
    record {
      reads = λ e t can_save z.
          record {
            keeps = keeps-go z (letters few) (omega arith);
            follows = λ m at n s. rw (no-of-true (below-yes few)) (settled-go m.steps (machine.go_on at) (Letters _ false) refl s n);
          };
    }

pub higher-stop : {c : Counts} {k d steps : ℕ} → machine.k_limit ≤ 5 * k + d → HigherLetter c k d steps (Stop ProofMalformedVarint steps)
unfolding machine.on_letter unless
higher-stop many =
    record {
      reads = λ e t can_save z.
          record {
            keeps = keeps-stop;
            follows = λ m at n s. rw (no-of-false (below-no many)) (stopped (machine.go_on at) (machine.go_on at (machine.in_letters _ false)) n refl);
          };
    }

-- `Z`
module _ {stack places places' : List ℕ} {c : Counts} {limit k steps : ℕ} where
  pub save-go : {c' : Counts} → k < machine.k_limit → SavesTop stack places c limit places' (Ok c') → SaveLetter stack places places' c limit k true steps (Go (Letters k false) c' steps)
  unfolding machine.on_letter unless no mode_of
  save-go {c'} low saves =
      record {
        reads = λ e t limit_is stack_is places_is r.
            let there = ends-go (saves.follows (bench_of e) (lent_of t) r.memory limit_is stack_is places_is r.shown) in
            let same-pool = (given (save-pool _ _ _) there.1).is in
            let a = r.shown.pool in
            let b = there.2.pool in
            let used : c.used ≤ c'.used = omega arith in
            let z = r.sized in
            record {
              keeps = keeps-go (record { seats = z.seats; froms = z.froms; tos = z.tos; sets = z.sets; ranged = ranged-more used z.ranged }) (letters low) (omega arith);
              follows = λ m at n s.
                  let w = ends-go (saves.follows (bench_of e) (lent_of t) m limit_is stack_is places_is s) in
                  settled-go m.steps (machine.go_on at) (Letters k false) w.1 w.2 (steps-out (save-steps _ _ _) w.1 ∙ n);
            };
      }

  pub save-full : {why : Refusal} → SavesTop stack places c limit places' (Err why) → SaveLetter stack places places' c limit k true steps (Stop why steps)
  unfolding machine.on_letter unless no
  save-full saves =
      record {
        reads = λ e t limit_is stack_is places_is r.
            record {
              keeps = keeps-stop;
              follows = λ m at n s. stopped (machine.go_on at) (machine.go_on at (machine.in_letters k false)) n (ends-refused (saves.follows (bench_of e) (lent_of t) m limit_is stack_is places_is s));
            };
      }

pub save-not : {stack places : List ℕ} {c : Counts} {limit k steps : ℕ} → SaveLetter stack places places c limit k false steps (Stop ProofInvalidSave steps)
unfolding machine.on_letter unless no
save-not {k = k} =
    record {
      reads = λ e t limit_is stack_is places_is r.
          record { keeps = keeps-stop; follows = λ m at n s. stopped (machine.go_on at) (machine.go_on at (machine.in_letters k false)) n refl };
    }

-- `?`
module _ {k steps : ℕ} where
  pub incomplete-varint : 0 < k → IncompleteLetter k steps (Stop ProofMalformedVarint steps)
  unfolding machine.on_letter pick
  incomplete-varint some =
      record { reads = λ e t c can_save. record { keeps = keeps-stop; follows = λ m at n s. rw (below-yes some) (refused-there n) } }

  pub incomplete-plain : k ≤ 0 → IncompleteLetter k steps (Stop ProofIncomplete steps)
  unfolding machine.on_letter pick
  incomplete-plain none =
      record { reads = λ e t c can_save. record { keeps = keeps-stop; follows = λ m at n s. rw (below-no none) (refused-there n) } }

-- any other byte
pub ignored : {c : Counts} {k steps : ℕ} {can_save : Bool} → k < machine.k_limit → IgnoredLetter c k can_save steps (Go (Letters k can_save) c steps)
unfolding machine.on_letter mode_of
ignored low =
    record { reads = λ e t z. record { keeps = keeps-go z (letters low) (omega arith); follows = λ m at n s. goes s n } }

-- the digits of letters
letter-digits : (b : ℕ) → ((d : ℕ) → letter b ≡ Last d → d < 20) × ((d : ℕ) → letter b ≡ Higher d → d < 20)
unfolding letter pick
letter-digits b = low (both (at_most 65 b) (at_most b 84)) refl
  where
    high : (t : Bool) → both (at_most 85 b) (at_most b 89) ≡ t
        → ((d : ℕ) → pick t (Higher (b - 84)) (pick (equal b 90) Save (pick (equal b 63) Incomplete Ignored)) ≡ Last d → d < 20)
        × ((d : ℕ) → pick t (Higher (b - 84)) (pick (equal b 90) Save (pick (equal b 63) Incomplete Ignored)) ≡ Higher d → d < 20)
    high true e =
        let p = both_true _ _ e in
        let low' = at_most-true _ _ p.0 in
        let high' = at_most-true _ _ p.1 in
        (λ d q. let z : ◌≡◌ {A = ℕ} 0 1 = cc in absurd (omega arith), λ d q. let same : b - 84 ≡ d = cc in omega arith)
    high false e = other (equal b 90)
      where
        last : (t : Bool) → ((d : ℕ) → pick t Incomplete Ignored ≡ Last d → d < 20) × ((d : ℕ) → pick t Incomplete Ignored ≡ Higher d → d < 20)
        last true = (λ d q. let z : ◌≡◌ {A = ℕ} 0 1 = cc in absurd (omega arith), λ d q. let z : ◌≡◌ {A = ℕ} 0 1 = cc in absurd (omega arith))
        last false = (λ d q. let z : ◌≡◌ {A = ℕ} 0 1 = cc in absurd (omega arith), λ d q. let z : ◌≡◌ {A = ℕ} 0 1 = cc in absurd (omega arith))

        other : (t : Bool) → ((d : ℕ) → pick t Save (pick (equal b 63) Incomplete Ignored) ≡ Last d → d < 20) × ((d : ℕ) → pick t Save (pick (equal b 63) Incomplete Ignored) ≡ Higher d → d < 20)
        other true = (λ d q. let z : ◌≡◌ {A = ℕ} 0 1 = cc in absurd (omega arith), λ d q. let z : ◌≡◌ {A = ℕ} 0 1 = cc in absurd (omega arith))
        other false = last (equal b 63)

    low : (t : Bool) → both (at_most 65 b) (at_most b 84) ≡ t
        → ((d : ℕ) → pick t (Last (b - 65)) (pick (both (at_most 85 b) (at_most b 89)) (Higher (b - 84)) (pick (equal b 90) Save (pick (equal b 63) Incomplete Ignored))) ≡ Last d → d < 20)
        × ((d : ℕ) → pick t (Last (b - 65)) (pick (both (at_most 85 b) (at_most b 89)) (Higher (b - 84)) (pick (equal b 90) Save (pick (equal b 63) Incomplete Ignored))) ≡ Higher d → d < 20)
    low true e =
        let p = both_true _ _ e in
        let low' = at_most-true _ _ p.0 in
        let high' = at_most-true _ _ p.1 in
        (λ d q. let same : b - 65 ≡ d = cc in omega arith, λ d q. let z : ◌≡◌ {A = ℕ} 0 1 = cc in absurd (omega arith))
    low false e = high (both (at_most 85 b) (at_most b 89)) refl

pub last-small : (b d : ℕ) → Last d ≡ letter b → d < 20
last-small b d e = (letter-digits b).0 d (sym e)

pub higher-small : (b d : ℕ) → Higher d ≡ letter b → d < 20
higher-small b d e = (letter-digits b).1 d (sym e)
