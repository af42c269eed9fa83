-- The file check is done: the fronts of the two tables are the index of a good file, and a refusal of the file is the answer.
use Prim.Native.Nat.{ℕ, ◌≤◌}
use mathlib.Core.Path.{◌≡◌, refl, sym, ◌∙◌, ap}
use mathlib.Core.List.{List}
use native.Mathlib.Omega.{arith}
use lib.ListN.{length, take, replicate}
use Rattle.frames.specs.Verdict.{index, laid, Checked, number_of, Verdict, Good, Refused}
use Rattle.frames.specs.Database.{database, GoodFile}
use Rattle.frames.specs.declared.Refusal.{Refusal}
use Rattle.frames.proofs.Tables.{laid-front, laid-length}
use Rattle.facts.proofs.Decoded.{database-symbols, database-statements}
use Rattle.facts.proofs.GoodFacts.{good-facts}
use Rattle.facts.proofs.Unique.{good-answer}
use Rattle.machine.specs.Answer.{number, place, steps}
use Rattle.machine.specs.Bench.{answer, answer_good, judged}
use Rattle.machine.specs.Memory.{Room}
use Rattle.resolve.specs.Filed.{Filed}
use Rattle.told.specs.declared.Told.{Told}
use Rattle.told.specs.Says.{Says}

-- as many zeros for the same length
pub zeros-same : {m n : ℕ} → m ≡ n → ◌≡◌ {A = List ℕ} (replicate m 0) (replicate n 0)
zeros-same l = ap (λ (n : ℕ). replicate n 0) l

-- the front of a table that a list was laid into
module _ (xs t : List ℕ) {t' : List ℕ} {n : ℕ} (is : t' ≡ laid xs t) (many : n ≡ length xs) where
  front : take n t' ≡ xs
  front = rw (is, many) (laid-front xs t)

  front_fits : length t ≡ 4096 → length xs ≤ 4096 → n ≤ length t'
  front_fits size few = let l = ap length is ∙ laid-length xs t (omega arith) in omega arith

  front_length : n ≡ length (take n t')
  front_length = many ∙ sym (ap length front)

module _ {f syms stmts syms' stmts' : List ℕ} {v : Verdict} (ch : Checked f syms stmts syms' stmts' v) where
  module _ {n k : ℕ} (is : v ≡ Good n k) where
    good : GoodFile f × (n ≡ length (database f).symbols) × (k ≡ length (database f).statements)
    good = good-answer f n k (sym ch.answers ∙ is)

    symbols-many : n ≡ length (index f).symbols
    symbols-many = good.1 ∙ database-symbols f

    statements-many : k ≡ length (index f).statements
    statements-many = good.2 ∙ database-statements f

    pub symbols-fit : length syms ≡ 4096 → n ≤ length syms'
    symbols-fit size =
        let few = (good-facts f good.0).symbol-count in
        front_fits (index f).symbols syms ch.symbols_laid symbols-many size (omega (arith, database-symbols f))

    pub statements-fit : length stmts ≡ 4096 → k ≤ length stmts'
    statements-fit size =
        let few = (good-facts f good.0).statement_count in
        front_fits (index f).statements stmts ch.statements_laid statements-many size (omega (arith, database-statements f))

    pub symbols-length : n ≡ length (take n syms')
    symbols-length = front_length (index f).symbols syms ch.symbols_laid symbols-many

    pub statements-length : k ≡ length (take k stmts')
    statements-length = front_length (index f).statements stmts ch.statements_laid statements-many

    pub filed : Filed f (take n syms') (take k stmts')
    filed =
        record {
          good = good.0;
          symbols = front (index f).symbols syms ch.symbols_laid symbols-many;
          statements = front (index f).statements stmts ch.statements_laid statements-many;
        }

    -- the answer for a good file
    pub good-is : (p : ℕ) (room : Room) → answer_good (database f) p room ≡ answer f p room
    unfolding answer judged
    good-is p room = rw (sym ch.answers ∙ is)

    pub good-says : (p : ℕ) (room : Room) {t : Told} → Says (answer_good (database f) p room) t → Says (answer f p room) t
    unfolding answer judged
    good-says p room s = rw (sym ch.answers ∙ is) s

  -- the answer for a file that is turned away
  pub refused_says : {why : Refusal} {at n : ℕ} (p : ℕ) (room : Room) → v ≡ Refused why at → n ≡ number_of why
      → Says (answer f p room) (record { number = n; place = at; steps = 0 })
  unfolding answer judged number place steps
  refused_says p room is e = rw (sym ch.answers ∙ is) (record { number = e; place = refl; steps = refl })
