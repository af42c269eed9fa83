-- What is told of an accepted proof. Its steps are one more than the hypotheses that it consumed, so at most 2 x steps - 1 tree entries were recorded: where
-- as many were lent, the entries hold the derivation, and its text is written where it fits.
use Rattle.std.proofs.Common.{Some, None, Err}
use Prim.Native.Nat.{ℕ, suc, ◌+◌, ◌-◌, ◌/◌, ◌*◌, ◌≤◌, min}
use mathlib.Core.Path.{◌≡◌, refl, sym}
use mathlib.Core.Bool.{Bool, true, false}
use mathlib.Core.List.{List}
use native.Mathlib.Omega.{arith}
use lib.ListN.{length}
use Rattle.book.specs.Book.{Tree}
use Rattle.frames.specs.Logic.{below, pick}
use Rattle.frames.specs.Database.{Database, database, GoodFile}
use Rattle.frames.specs.Verdict.{laid}
use Rattle.frames.proofs.Chains.{below-yes, below-no, below_true, below_false}
use Rattle.machine.specs.Answer.{Answer, accepted, number}
use Rattle.machine.specs.Bench.{ended}
use Rattle.machine.specs.Promise.{Counted, all_steps}
use Rattle.machine.specs.Run.{State}
use Rattle.machine.proofs.Numbers.{refusal-number}
use Rattle.run_bytes.specs.declared.Stopped.{Stopped}
use Rattle.findings.specs.Answers.{Accepted}
use Rattle.findings.specs.Tells.{Tells, accepts, refuses}
use Rattle.tree.specs.Recorded.{Held}
use Rattle.postorder.specs.LongForm.{nothing_written, written, entries_for, long_of}
use Rattle.postorder.proofs.Answers.{refusal-answered}
use Rattle.long_text.specs.Long.{Written, Long, WritesLong}
use Rattle.long_text.proofs.Answers.{whole-fits, too-long-exceeds}
use Rattle.told.specs.declared.Told.{Told}
use Rattle.told.specs.Says.{Says, SaysAs}
use Rattle.long.specs.Calls.{SaysLong}
use Rattle.long.specs.Telling.{TellsLong}

-- half of the entries, rounded up, are fewer than the steps exactly where the entries are fewer than 2 x steps - 1
pub half-few : (lent steps : ℕ) → below (lent - lent / 2) steps ≡ below lent (entries_for steps)
unfolding entries_for
half-few lent steps = tried (below (lent - lent / 2) steps) refl
  where
    tried : (t : Bool) → below (lent - lent / 2) steps ≡ t → t ≡ below lent (2 * steps - 1)
    tried true e = let l = below_true (lent - lent / 2) steps e in sym (below-yes (omega arith))
    tried false e = let l = below_false (lent - lent / 2) steps e in sym (below-no (omega arith))

-- a refusal is told as it is, and nothing is written
pub refusal-says : (db : Database) (lent size : ℕ) (output : List ℕ) {a : Answer} {t : Told} → Says a t → (number a ≡ 0 → ⊥) → SaysLong (long_of db lent size a) output output t
unfolding nothing_written laid
refusal-says db lent size output {a} s some =
    rw (refusal-answered db lent size a some) (record { number = s.number; place = s.place; steps = s.steps; written = refl })

module _ (f entries : List ℕ) (lent : ℕ) (output : List ℕ) where
  refused_says : {x : Stopped} {s : State} {t : Told} → Tells f entries s (Err x) → Says (ended s) t → SaysLong (long_of (database f) lent (length output) (ended s)) output output t
  unfolding ended number
  refused_says {x} refuses says = refusal-says (database f) lent (length output) output says (λ z. omega (arith, refusal-number x.why))

  -- a refused proof
  pub refused-long : {x : Stopped} {t : Told} → SaysAs (Err x) t → TellsLong f entries lent (Err x) output output t
  refused-long told = record { says = λ L s good tells counted few size. refused_says tells (told.says f entries s tells) }

counted-steps : {L place steps consumed : ℕ} {tree : Tree} → Counted L (accepted place steps consumed tree) → L ≤ 65536 → (steps ≡ suc consumed) × (steps ≤ 65536)
counted-steps (all_steps e l) few = (e, omega arith)

module _ (f entries : List ℕ) (lent at done word nodes : ℕ) (output : List ℕ) where
  full-says : {s : State} → Tells f entries s (Accepted at done word nodes) → below lent (entries_for done) ≡ true
      → SaysLong (long_of (database f) lent (length output) (ended s)) output output (record { number = 60; place = at; steps = done })
  unfolding ended long_of nothing_written pick laid
  full-says (accepts few held) e = rw e (record { number = refl; place = refl; steps = refl; written = refl })

  -- too few tree entries
  pub full-long : below lent (entries_for done) ≡ true → TellsLong f entries lent (Accepted at done word nodes) output output (record { number = 60; place = at; steps = done })
  full-long e = record { says = λ L s good tells counted few size. full-says tells e }

  module _ (sizes pending output' : List ℕ) (answer : Written) (sized : length sizes ≡ 131072) (room : length pending ≡ 32768)
      (enough : below lent (entries_for done) ≡ false) (writes : WritesLong f entries nodes word sizes pending output output' answer) where
    -- the entries hold the derivation, so its text is what was written
    long-is : (consumed : ℕ) (tree : Tree) → nodes ≤ done + consumed → (nodes ≤ length entries → Held f entries nodes word tree)
        → (done ≡ suc consumed) × (done ≤ 65536) → length entries ≡ min lent 131072 → GoodFile f → Long (database f) tree output output' answer
    unfolding entries_for
    long-is consumed tree few held counted size good =
        let l = below_false lent (2 * done - 1) enough in
        let c = counted.0 in
        let d = counted.1 in
        let there : nodes ≤ length entries = omega arith in
        writes.follows tree good (held there) (omega arith) (omega arith)

    whole_says : {n L : ℕ} {s : State} → answer ≡ Some n → GoodFile f → Tells f entries s (Accepted at done word nodes) → Counted L (ended s) → L ≤ 65536
        → length entries ≡ min lent 131072 → SaysLong (long_of (database f) lent (length output) (ended s)) output output' (record { number = 0; place = n; steps = done })
    unfolding ended long_of written pick
    whole_says {n} is good (accepts {consumed = consumed} {tree = tree} few held) counted small size =
        let long = long-is consumed tree few held (counted-steps counted small) size good in
        let fit = whole-fits (database f) tree output output' n (rw is at long) in
        rw (enough, fit.fitting) (record { number = refl; place = fit.sized; steps = refl; written = fit.written })

    exceeding-says : {L : ℕ} {s : State} → answer ≡ None → GoodFile f → Tells f entries s (Accepted at done word nodes) → Counted L (ended s) → L ≤ 65536
        → length entries ≡ min lent 131072 → SaysLong (long_of (database f) lent (length output) (ended s)) output output' (record { number = 61; place = at; steps = done })
    unfolding ended long_of nothing_written pick laid
    exceeding-says is good (accepts {consumed = consumed} {tree = tree} few held) counted small size =
        let long = long-is consumed tree few held (counted-steps counted small) size good in
        let over = too-long-exceeds (database f) tree output output' (rw is at long) in
        rw (enough, over.exceeding) (record { number = refl; place = refl; steps = refl; written = over.untouched })

    -- the text is written
    pub whole_long : {n : ℕ} → answer ≡ Some n → TellsLong f entries lent (Accepted at done word nodes) output output' (record { number = 0; place = n; steps = done })
    whole_long is = record { says = λ L s good tells counted few size. whole_says is good tells counted few size }

    -- it is too long
    pub exceeding-long : answer ≡ None → TellsLong f entries lent (Accepted at done word nodes) output output' (record { number = 61; place = at; steps = done })
    exceeding-long is = record { says = λ L s good tells counted few size. exceeding-says is good tells counted few size }
