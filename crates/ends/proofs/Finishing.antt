-- The end of a proof: the row that is left stands for the one entry, and the code's comparisons are the definition's.
use Rattle.std.proofs.Common.{Ok, Err}
use Prim.Native.Nat.{ℕ, ◌≤◌, ◌<◌}
use mathlib.Core.Path.{◌≡◌, refl, sym, ◌∙◌}
use mathlib.Core.Bool.{Bool, true, false}
use mathlib.Core.List.{List}
use native.Mathlib.Omega.{arith}
use lib.ListN.{length, get_or}
use Rattle.book.specs.Book.{Expression}
use Rattle.frames.specs.Logic.{equal, pick, no, same}
use Rattle.frames.specs.Database.{database, statement_at}
use Rattle.frames.specs.Facts.{typecode}
use Rattle.frames.proofs.Chains.{equal-yes, equal-no, no-of-true, no-of-false}
use Rattle.frames.proofs.Tells.{true-not-false}
use Rattle.machine.specs.declared.Refusal.{Refusal}
use Rattle.machine.specs.declared.Refusal.TheVariants.{ProofExcessEnd, ProofNoSteps, ProofWrongTypeEnd, ProofWrongExprEnd}
use Rattle.machine.specs.Chain.{Result, fine, unless}
use Rattle.machine.specs.Ground.{expression, expression_of}
use Rattle.machine.specs.Memory.{Proved, Entry, Memory}
use Rattle.machine.specs.Run.{is_claim, only_entry}
use Rattle.packed.specs.Lists.{Located, ComparesRaw}
use Rattle.resolve.specs.Filed.{Filed}
use Rattle.resolve.proofs.Filing.{located-statement, filed-indexed}
use Rattle.memory.specs.declared.table.Row.{Row}
use Rattle.memory.specs.declared.Counts.{Counts}
use Rattle.memory.specs.Table.{RowAt}
use Rattle.memory.specs.Shown.{Bench, Lent, Down, bottom, over, Means, EntryShown, Shown}
use Rattle.memory.proofs.Tables.{row_one}
use Rattle.machine.specs.Passed.{Passed}
use Rattle.ends.specs.End.{HoldsClaim, IsClaim, EndsAs, accepts, refuses, ChecksEnd}

-- a test that holds refuses; one that does not is passed
end-stop : {t : Bool} {why : Refusal} (rest : Result Proved) → t ≡ true → EndsAs (unless t why rest) (Err why)
unfolding unless
end-stop rest e = rw e refuses

end-skip : {t : Bool} {rest : Result Proved} {answer : Passed} (why : Refusal) → t ≡ false → EndsAs rest answer → EndsAs (unless t why rest) answer
unfolding unless
end-skip why e x = rw e x

-- the row's typecode and the claim's
module _ (f : List ℕ) (at : ℕ) (row : Row) {code : ℕ} (is : code ≡ get_or (statement_at f at).symbols 0 0) where
  other-code : (row.head ≡ code → ⊥) → equal row.head (typecode (statement_at f at)) ≡ false
  unfolding typecode
  other-code n = equal-no (λ e. n (e ∙ sym is))

  same_code : row.head ≡ code → equal row.head (typecode (statement_at f at)) ≡ true
  unfolding typecode
  same_code e = equal-yes (e ∙ is)

  pub claim-other : {syms pool : List ℕ} → (row.head ≡ code → ⊥) → IsClaim f syms at row pool (Err ProofWrongTypeEnd)
  claim-other n = record { other = λ e. refl; alike = λ e. absurd (true-not-false e (other-code n)) }

  pub claim-alike : {syms pool : List ℕ} {holds : Bool} → row.head ≡ code → HoldsClaim f syms at row pool holds
      → IsClaim f syms at row pool (pick holds (Ok tt) (Err ProofWrongExprEnd))
  claim-alike {holds = holds} e h =
      record { other = λ n. absurd (true-not-false (same_code e) n); alike = λ a. (holds, h, refl) }

code_of : {f : List ℕ} {p at : ℕ} (code : ℕ) (e : Expression) → Located f p at → code ≡ e.typecode
    → equal e.typecode (expression_of (database f) p).typecode ≡ equal code (typecode (statement_at f at))
unfolding expression_of expression
code_of code e loc is = rw (is, located-statement loc) refl

module _ {f syms : List ℕ} {at : ℕ} {row : Row} {pool : List ℕ} where
  -- a row that was compared, and one that is not within the pool
  pub holds_read : {answer : Bool} → ComparesRaw f syms at pool row.from row.to answer → HoldsClaim f syms at row pool answer
  holds_read c = record { compares = λ rises within. c }

  pub holds-never : {answer : Bool} → (row.from ≤ row.to → row.to ≤ length pool → ⊥) → HoldsClaim f syms at row pool answer
  holds-never n = record { compares = λ rises within. absurd (n rises within) }

  -- what the row stands for, against the claim
  claim-judged : {stmts vs : List ℕ} {p used : ℕ} (x : Proved) {answer : Passed} → Filed f syms stmts → Located f p at → used ≤ length pool
      → Means (database f) vs pool used row x.expression → IsClaim f syms at row pool answer → EndsAs (is_claim (expression_of (database f) p) x) answer
  unfolding is_claim pick
  claim-judged {p = p} x {answer = answer} w loc large means is = by_code (equal row.head (typecode (statement_at f at))) refl
    where
      codes : equal x.expression.typecode (expression_of (database f) p).typecode ≡ equal row.head (typecode (statement_at f at))
      codes = code_of row.head x.expression loc means.typecode

      by-symbols : (holds : Bool) → holds ≡ same x.expression.symbols (expression_of (database f) p).symbols
          → EndsAs (unless (no (same x.expression.symbols (expression_of (database f) p).symbols)) ProofWrongExprEnd (fine x)) (pick holds (Ok tt) (Err ProofWrongExprEnd))
      by-symbols true e = end-skip ProofWrongExprEnd (no-of-true (sym e)) accepts
      by-symbols false e = end-stop _ (no-of-false (sym e))

      by_code : (t : Bool) → equal row.head (typecode (statement_at f at)) ≡ t → EndsAs (is_claim (expression_of (database f) p) x) answer
      by_code false e = rw (is.other e) (end-stop _ (no-of-false (codes ∙ e)))
      by_code true e =
          let a = is.alike e in
          let within = means.within in
          let told = (a.1.compares means.rises (omega arith)).tells p x.expression.symbols (filed-indexed w) loc means.defined means.symbols in
          rw a.2 (end-skip ProofWrongTypeEnd (no-of-true (codes ∙ e)) (by-symbols a.0 told))

module _ {f syms : List ℕ} {at : ℕ} {stack pool : List ℕ} {c : Counts} where
  -- no entry is left
  pub ends-none : c.depth ≡ 0 → ChecksEnd f syms at stack pool c (Err ProofNoSteps)
  unfolding only_entry
  ends-none nothing = record { follows = λ stmts b l m file-is stack_is pool-is w loc s. none (expression_of (database f) b.asked) nothing s.stack }
    where
      none : {P : ℕ → Entry → Type 0} {n : ℕ} {es : List Entry} (claim : Expression) → n ≡ 0 → Down P n es → EndsAs (only_entry claim es) (Err ProofNoSteps)
      none claim e bottom = refuses
      none claim e (over g p d) = absurd (omega arith)

  -- more than one is left
  pub ends-many : 1 < c.depth → ChecksEnd f syms at stack pool c (Err ProofExcessEnd)
  unfolding only_entry
  ends-many more = record { follows = λ stmts b l m file-is stack_is pool-is w loc s. many (expression_of (database f) b.asked) more s.stack }
    where
      many : {P : ℕ → Entry → Type 0} {n : ℕ} {es : List Entry} (claim : Expression) → 1 < n → Down P n es → EndsAs (only_entry claim es) (Err ProofExcessEnd)
      many claim e bottom = absurd (omega arith)
      many claim e (over g p bottom) = absurd (omega arith)
      many claim e (over g p (over h q d)) = refuses

  -- one is left
  pub ends-one : {row : Row} {answer : Passed} → c.depth ≡ 1 → RowAt stack 0 row → IsClaim f syms at row pool answer → ChecksEnd f syms at stack pool c answer
  unfolding only_entry
  ends-one {row} {answer} single there is =
      record { follows = λ stmts b l m file-is stack_is pool-is w loc s. one stmts b l m file-is stack_is pool-is w loc s single s.stack }
    where
      one : (stmts : List ℕ) (b : Bench) (l : Lent) (m : Memory) → b.file ≡ f → l.stack ≡ stack → l.pool ≡ pool → Filed f syms stmts → Located f b.asked at
          → Shown b l c m → {n : ℕ} {es : List Entry} → n ≡ 1
          → Down (EntryShown (database b.file) m.variables l.pool c.used b.text l.stack) n es
          → EndsAs (only_entry (expression_of (database f) b.asked) es) answer
      one stmts b l m file-is stack_is pool-is w loc s e bottom = absurd (omega arith)
      one stmts b l m file-is stack_is pool-is w loc s e (over g p (over h q d)) = absurd (omega arith)
      one stmts b l m file-is stack_is pool-is w loc s e (over g p bottom) =
          let same_row : p.row ≡ row = row_one p.at (rw stack_is there) in
          let few = s.pool_few in
          let large = s.pool_sized in
          let used : c.used ≤ length l.pool = omega arith in
          claim-judged _ w loc (rw pool-is at used) (rw (same_row, file-is, pool-is) at p.means) is
