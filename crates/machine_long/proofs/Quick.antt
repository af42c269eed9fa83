-- A quicker way to the answer of a run, for long files. The definition finds each byte from the front of the file; here a record is read at
-- the front of what is left of the file, and what it names by number is looked up among the records already decoded. The answer
-- is the same for every list of bytes: `answer-same` (Same.antt). No reader has to believe this file.
use Rattle.std.proofs.Common.{Some, None}
use Prim.Native.Nat.{ℕ, zero, suc, ◌+◌}
use mathlib.Core.Bool.{Bool}
use mathlib.Core.List.{List, [], ◌∷◌, ◌++◌}
use lib.ListN.{length, get_or, drop}
use Rattle.frames.specs.Logic.{below, at_most, equal, pick, either, both, no, one_of, all, any, same, rising_from}
use Rattle.frames.specs.Layout.{length_at, kind_at, next_at, asserts, supposes, is_statement, class_at, scope_end_at, rest_at, hyps_at, pairs_at, symbols_at}
use Rattle.frames.specs.Table.{bad_record, too_many, name_byte, label_byte, within, equal_members, no_proof}
use Rattle.frames.specs.Verdict.{Index, nothing, unless, end_verdict, Fault, Verdict, Refused}
use Rattle.frames.specs.Database.{Symbol, Statement, Database, symbol_at, statement_at, decode}
use Rattle.frames.specs.Facts.{typecode, floated}
use Rattle.frames.specs.declared.Refusal.TheVariants.{BadRecord, TooMany, BadSymbol, BadLabel, BadReference, BadFrame, NoProof}
use Rattle.machine.specs.Answer.{Answer}
use Rattle.machine.specs.Memory.{Room}
use Rattle.machine.specs.Bench.{answer_good, judged}

-- what stands before a record: how many symbols, the class of a symbol by its number, how many statements, the statement of a number
pub record Before : Type 0 where
  pub known : ℕ
  pub class : ℕ → ℕ
  pub own : ℕ
  pub statement : ℕ → Statement

-- row 5, in the order of the table
unfoldable pub constant_of : Before → ℕ → Bool
constant_of b s = equal (b.class s) 0

unfoldable pub variable_of : Before → ℕ → Bool
variable_of b s = equal (b.class s) 1

unfoldable pub pair_of : Before → ℕ × ℕ → Bool
pair_of b q = both (variable_of b q.0) (variable_of b q.1)

unfoldable pub defined_of : Before → ℕ → Bool
defined_of b s = below s b.known

unfoldable pub active_of : Before → ℕ → Bool
active_of b s =
    both (below s b.own) (both (supposes (b.statement s).kind) (within (b.statement s).end b.own))

unfoldable pub numbers_of : Before → Statement → Bool
numbers_of b st =
    one_of
    (no (all (defined_of b) st.symbols)
    ∷ no (constant_of b (typecode st))
    ∷ both (equal st.kind 2) (no (variable_of b (floated st)))
    ∷ no (all (pair_of b) st.pairs)
    ∷ no (rising_from 0 st.hyps)
    ∷ no (all (active_of b) st.hyps)
    ∷ [])

-- row 6, in the order of the table
unfoldable pub float_for : Before → ℕ → ℕ → Bool
float_for b v h = both (equal (b.statement h).kind 2) (equal (floated (b.statement h)) v)

unfoldable pub float_under : Before → ℕ → ℕ → ℕ → Bool
float_under b limit v h = both (below h limit) (float_for b v h)

unfoldable pub has_float_of : Before → List ℕ → ℕ → ℕ → Bool
has_float_of b hyps limit v = any (float_under b limit v) hyps

unfoldable pub given_of : Before → List ℕ → ℕ → ℕ → Bool
given_of b hyps limit s = either (no (variable_of b s)) (has_float_of b hyps limit s)

unfoldable pub all_given_of : Before → List ℕ → ℕ → List ℕ → Bool
all_given_of b hyps limit xs = all (given_of b hyps limit) xs

unfoldable pub lacks_of : Before → List ℕ → ℕ → Bool
lacks_of b hyps h =
    both (equal (b.statement h).kind 3) (no (all_given_of b hyps h (b.statement h).symbols))

unfoldable pub second_of : Before → List ℕ → ℕ → Bool
second_of b hyps h = both (equal (b.statement h).kind 2) (has_float_of b hyps h (floated (b.statement h)))

unfoldable pub assertion_of : Before → Statement → Bool
assertion_of b st =
    one_of
    (no (all_given_of b st.hyps b.own st.symbols)
    ∷ any (lacks_of b st.hyps) st.hyps
    ∷ any (second_of b st.hyps) st.hyps
    ∷ any equal_members st.pairs
    ∷ [])

-- rows 3 and 4: this name or label
unfoldable pub has_name : List ℕ → Symbol → Bool
has_name text s = same s.name text

unfoldable pub has_label : List ℕ → Statement → Bool
has_label text st = same st.label text

-- what is wrong with the record at the front of `r`, which is decoded as `st`; what a `let` binds is computed only for the kinds that ask it
unfoldable pub fault_here : Before → Database → Index → List ℕ → Statement → Fault
fault_here b db ix r st =
    let name = either (no (all name_byte st.label)) (any (has_name st.label) db.symbols) in
    let label = either (no (all label_byte st.label)) (any (has_label st.label) db.statements) in
    let numbers = numbers_of b st in
    let frame = assertion_of b st in
    unless (bad_record r 0) BadRecord
    (unless (too_many r ix.symbols ix.statements 0) TooMany
    (unless (both (equal st.kind 1) name) BadSymbol
    (unless (both (is_statement st.kind) label) BadLabel
    (unless (both (is_statement st.kind) numbers) BadReference
    (unless (both (asserts st.kind) frame) BadFrame
    (unless (no_proof r ix.owed 0) NoProof
    None))))))

-- the record at the front of `r`, whose offset is `o`
unfoldable pub symbol_here : List ℕ → ℕ → Symbol
symbol_here r o = record { at = o; class = class_at r 0; name = rest_at r 0 }

unfoldable pub statement_here : List ℕ → ℕ → Statement
statement_here r o =
    record {
      at = o;
      kind = kind_at r 0;
      end = pick (supposes (kind_at r 0)) (scope_end_at r 0) 0;
      hyps = hyps_at r 0;
      pairs = pairs_at r 0;
      symbols = symbols_at r 0;
      label = rest_at r 0;
      text = pick (equal (kind_at r 0) 5) (rest_at r (next_at r 0)) [];
    }

-- a symbol's class by its number, and a statement by its number, among the decoded ones; past their end stands the file's first record
unfoldable pub class_in : ℕ → List Symbol → Symbol → ℕ → ℕ
class_in known symbols first s = pick (below s known) (get_or symbols s first).class 2

unfoldable pub statement_in : List Statement → Statement → ℕ → Statement
statement_in statements first h = get_or statements h first

unfoldable pub before : Symbol → Statement → Database → Index → Before
before s₀ t₀ db ix =
    record {
      known = length ix.symbols;
      class = class_in (length ix.symbols) db.symbols s₀;
      own = length ix.statements;
      statement = statement_in db.statements t₀;
    }

-- the index and the database with the record read
unfoldable pub after_here : ℕ → Index → ℕ → Index
after_here kind ix o =
    record {
      symbols = pick (equal kind 1) (ix.symbols ++ (o ∷ [])) ix.symbols;
      statements = pick (is_statement kind) (ix.statements ++ (o ∷ [])) ix.statements;
      owed = equal kind 5;
    }

unfoldable pub with_here : Database → Symbol → Statement → Database
with_here db s st =
    record {
      symbols = pick (equal st.kind 1) (db.symbols ++ (s ∷ [])) db.symbols;
      statements = pick (is_statement st.kind) (db.statements ++ (st ∷ [])) db.statements;
    }

-- the verdict, and the database of what was read before it was given
pub record Judged : Type 0 where
  pub verdict : Verdict
  pub database : Database

unfoldable pub judged_at_end : ℕ → Database → Index → Judged
judged_at_end total db ix =
    record { verdict = end_verdict ix.owed total (length ix.symbols) (length ix.statements); database = db }

unfoldable pub judged_here : Fault → ℕ → Database → Judged → Judged
judged_here None o db rest = rest
judged_here (Some why) o db rest = record { verdict = Refused why o; database = db }

-- the records from offset `o` on, where `r` is the file from there and `total` its length
unfoldable pub quick_walk : ℕ → ℕ → Symbol → Statement → Database → Index → ℕ → List ℕ → Judged
quick_walk zero total s₀ t₀ db ix o r = judged_at_end total db ix
quick_walk (suc k) total s₀ t₀ db ix o r =
    let st = statement_here r o in
    let rest =
    quick_walk k total s₀ t₀ (with_here db (symbol_here r o) st) (after_here (kind_at r 0) ix o) (o + 4 + length_at r 0)
    (drop (4 + length_at r 0) r) in
    pick (at_most total o)
    (judged_at_end total db ix)
    (judged_here (fault_here (before s₀ t₀ db ix) db ix r st) o db rest)

-- the whole file
unfoldable pub quick : List ℕ → Judged
quick f =
    pick (below 1048576 (length f))
    (record { verdict = Refused TooMany 0; database = decode f nothing })
    (quick_walk (length f + 1) (length f) (symbol_at f 0) (statement_at f 0) (decode f nothing) nothing 0 f)

-- the answer
unfoldable pub quick_answer : Judged → ℕ → Room → Answer
quick_answer w p room = judged w.verdict (answer_good w.database p room)
