-- One statement's long form: what is told of its proof's answer is the long answer of the statement, and of the file.
use Prim.Native.Nat.{ℕ, ◌≤◌, ◌<◌, min}
use mathlib.Core.Path.{◌≡◌}
use mathlib.Core.List.{List}
use native.Mathlib.Omega.{arith}
use lib.ListN.{length, get_or}
use Rattle.frames.specs.Database.{Database, database, statement_at}
use Rattle.frames.specs.Verdict.{Checked, number_of, Verdict, Good, Refused}
use Rattle.frames.specs.declared.Refusal.{Refusal}
use Rattle.machine.specs.Answer as answers
use Rattle.machine.specs.Bench.{answer_good}
use Rattle.machine.specs.Memory.{Room, limited}
use Rattle.machine.specs.Run.{run}
use Rattle.machine.proofs.Counts.{run-counted}
use Rattle.machine.proofs.Numbers.{file-number}
use Rattle.resolve.specs.Filed.{Filed}
use Rattle.findings.specs.Answers.{Answer}
use Rattle.findings.specs.Tells.{Tells}
use Rattle.postorder.specs.LongForm.{long_of, long_answer}
use Rattle.told.specs.declared.Told.{Told}
use Rattle.told.specs.Says.{Says}
use Rattle.proving.proofs.Asking.{beyond-says, other-says, text_few, proof-run}
use Rattle.bench.proofs.Checking.{good-is}
use Rattle.bench.proofs.Checking as checking
use Rattle.long.specs.Calls.{SaysLong}
use Rattle.long.specs.Telling.{TellsLong}
use Rattle.long.proofs.Accepting.{refusal-says}

-- the long answers of equal answers
long_same : (db : Database) (lent size : ℕ) {a b : answers.Answer} {output output' : List ℕ} {t : Told} → a ≡ b
    → SaysLong (long_of db lent size a) output output' t → SaysLong (long_of db lent size b) output output' t
long_same db lent size e s = rw e at s

module _ (lent : ℕ) (output : List ℕ) {f syms stmts : List ℕ} (w : Filed f syms stmts) (p : ℕ) (room : Room) where
  eight-says : Says (answer_good (database f) p room) (record { number = 8; place = 0; steps = 0 })
      → SaysLong (long_of (database f) lent (length output) (answer_good (database f) p room)) output output (record { number = 8; place = 0; steps = 0 })
  eight-says s = refusal-says (database f) lent (length output) output s (λ z. omega (arith, s.number))

  -- there is no statement p
  pub beyond-long : length stmts ≤ p
      → SaysLong (long_of (database f) lent (length output) (answer_good (database f) p room)) output output (record { number = 8; place = 0; steps = 0 })
  beyond-long past = eight-says (beyond-says w p room past)

  module _ {at : ℕ} (there : p < length stmts) (is : at ≡ get_or stmts p 0) where
    -- statement p is no $p
    pub other-long : {k : ℕ} → k ≡ (statement_at f at).kind → (k ≡ 5 → ⊥)
        → SaysLong (long_of (database f) lent (length output) (answer_good (database f) p room)) output output (record { number = 8; place = 0; steps = 0 })
    other-long e other = eight-says (other-says w p there is room e other)

    -- statement p is a $p
    pub proof-long : {text : List ℕ} → text ≡ (statement_at f at).text → {k : ℕ} → k ≡ (statement_at f at).kind → k ≡ 5 → (entries output' : List ℕ) {a : Answer} {t : Told}
        → Tells f entries (run (database f) p (limited room) text) a → length entries ≡ min lent 131072 → TellsLong f entries lent a output output' t
        → SaysLong (long_of (database f) lent (length output) (answer_good (database f) p room)) output output' t
    proof-long {text} has e five entries output' tells size long =
        long_same (database f) lent (length output) (proof-run w p there is has e five room)
        (long.says (length text) _ w.good tells (run-counted (database f) p (limited room) text) (text_few w p there is has e five) size)

module _ (lent : ℕ) (output : List ℕ) {f syms stmts syms' stmts' : List ℕ} {v : Verdict} (ch : Checked f syms stmts syms' stmts' v) (p : ℕ) (room : Room) where
  -- a good file
  pub good-long : {n k : ℕ} → v ≡ Good n k → (output' : List ℕ) {t : Told}
      → SaysLong (long_of (database f) lent (length output) (answer_good (database f) p room)) output output' t
      → SaysLong (long_answer f p room lent (length output)) output output' t
  unfolding long_answer
  good-long is output' s = long_same (database f) lent (length output) (good-is ch is p room) s

  -- a file that is turned away
  pub turned-long : {why : Refusal} {at n : ℕ} → v ≡ Refused why at → n ≡ number_of why
      → SaysLong (long_answer f p room lent (length output)) output output (record { number = n; place = at; steps = 0 })
  unfolding long_answer
  turned-long {why} is e =
      let s = checking.refused_says ch p room is e in
      refusal-says (database f) lent (length output) output s (λ z. omega (arith, s.number, file-number why))
