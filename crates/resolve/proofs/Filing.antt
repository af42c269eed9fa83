-- The tables of a good file, read by number: what stands at a number's offset is the symbol or the statement of that number.
use Prim.Native.Nat.{ℕ, ◌<◌}
use mathlib.Core.Path.{◌≡◌, sym, ◌∙◌, ap}
use mathlib.Core.List.{List}
use native.Mathlib.Omega.{arith}
use lib.ListN.{length, get_or}
use lib.Seq.{take-length}
use Rattle.frames.specs.Database.{Statement, database, statement_at}
use Rattle.frames.specs.Facts.{statement_of}
use Rattle.facts.proofs.Decoded.{database-statements, database-statement}
use Rattle.packed.specs.Lists.{Indexed, Located}
use Rattle.resolve.specs.Filed.{Filed}

-- the statement that is read at its offset
read_at : (f : List ℕ) (st : Statement) (o : ℕ) → st ≡ statement_at f o → st.at ≡ o
unfolding statement_at
read_at f st o e = ap (λ (x : Statement). x.at) e

pub located-statement : {f : List ℕ} {h at : ℕ} → Located f h at → statement_of (database f) h ≡ statement_at f at
located-statement {f} {h} {at} loc =
    let count = database-statements f in
    let read = database-statement f h (let t = loc.there in omega arith) in
    read ∙ ap (statement_at f) (sym (loc.offset ∙ read_at f _ _ read))

module _ {f syms stmts : List ℕ} (w : Filed f syms stmts) where
  pub filed-indexed : Indexed f syms
  filed-indexed = record { good = w.good; symbols = rw w.symbols (take-length _) }

  pub filed-length : length stmts ≡ length (database f).statements
  filed-length = ap length w.statements ∙ sym (database-statements f)

  module _ (h : ℕ) (there : h < length (database f).statements) where
    pub filed-statement : statement_at f (get_or stmts h 0) ≡ statement_of (database f) h
    filed-statement =
        let count = database-statements f in
        ap (λ (os : List ℕ). statement_at f (get_or os h 0)) w.statements ∙ sym (database-statement f h (omega arith))

    pub filed-located : Located f h (get_or stmts h 0)
    unfolding statement_at
    filed-located = record { there = there; offset = ap (λ (st : Statement). st.at) filed-statement }
