-- The verdict on a list of bytes, and the index of the file: the records are judged one after another, the first faulty one
-- decides, and in it the lowest number. Every list of bytes has exactly one verdict, since `verdict` is a function.
use Rattle.std.specs.Prelude.{ℕ, zero, suc, ◌+◌, ◌≡◌, Bool, true, false, List, [], ◌∷◌, ◌++◌, length, drop, Option, Some, None, Result, Ok, Err}
use Rattle.frames.specs.Logic.{below, at_most, equal, pick}
use Rattle.frames.specs.Layout.{kind_at, next_at, is_statement}
use Rattle.frames.specs.Table.{bad_record, too_many, bad_symbol, bad_label, bad_reference, bad_frame, no_proof}
use Rattle.frames.specs.declared.Refusal.{Refusal}
use Rattle.frames.specs.declared.Sizes.{Sizes}
use Rattle.frames.specs.declared.TurnedAway.{TurnedAway}
use Rattle.frames.specs.declared.Refusal.TheVariants.{BadRecord, TooMany, BadSymbol, BadLabel, BadReference, BadFrame, NoProof}

-- what is wrong with a record, or nothing
abbrev pub Fault : Type 0
Fault = Option Refusal

-- the file is good, with so many symbols and statements; or it is turned away, why and where
abbrev pub Verdict : Type 0
Verdict = Result Sizes TurnedAway

abbrev pub Good : ℕ → ℕ → Verdict
Good symbols statements = Ok (record { symbols = symbols; statements = statements })

abbrev pub Refused : {A : Type 0} → Refusal → ℕ → Result A TurnedAway
Refused why place = Err (record { why = why; place = place })

-- the paper's number of each refusal
abbrev pub number_of : Refusal → ℕ
number_of BadRecord = 1
number_of TooMany = 2
number_of BadSymbol = 3
number_of BadLabel = 4
number_of BadReference = 5
number_of BadFrame = 6
number_of NoProof = 7

-- what has been read so far: the offsets of the symbols and of the statements, in file order; whether a proof is owed, since
-- the last record is a $p
pub record Index : Type 0 where
  pub symbols : List ℕ
  pub statements : List ℕ
  pub owed : Bool

unfoldable pub nothing : Index
nothing = record { symbols = []; statements = []; owed = false }

-- the refusal where the test holds, else what the rest says
unfoldable pub unless : Bool → Refusal → Fault → Fault
unless true why rest = Some why
unless false why rest = rest

-- what is wrong with the record at `o`: the lowest number whose row holds
unfoldable pub fault_at : List ℕ → List ℕ → List ℕ → Bool → ℕ → Fault
fault_at f syms stmts owed o =
    unless (bad_record f o) BadRecord
    (unless (too_many f syms stmts o) TooMany
    (unless (bad_symbol f syms o) BadSymbol
    (unless (bad_label f stmts o) BadLabel
    (unless (bad_reference f syms stmts o) BadReference
    (unless (bad_frame f syms stmts o) BadFrame
    (unless (no_proof f owed o) NoProof
    None))))))

-- the index with the record at `o` read
unfoldable pub after : List ℕ → Index → ℕ → Index
after f ix o =
    record {
      symbols = pick (equal (kind_at f o) 1) (ix.symbols ++ (o ∷ [])) ix.symbols;
      statements = pick (is_statement (kind_at f o)) (ix.statements ++ (o ∷ [])) ix.statements;
      owed = equal (kind_at f o) 5;
    }

-- the verdict, and the index of what was read before it was given
pub record Outcome : Type 0 where
  pub verdict : Verdict
  pub index : Index

unfoldable pub refusal : Refusal → ℕ → Index → Outcome
refusal why place ix = record { verdict = Refused why place; index = ix }

-- at the end of the file: a $p last in the file lacks its proof, and the place is the file's length; else the file is good
unfoldable pub end_verdict : Bool → ℕ → ℕ → ℕ → Verdict
end_verdict owed len symbols statements = pick owed (Refused NoProof len) (Good symbols statements)

unfoldable pub at_end : List ℕ → Index → Outcome
at_end f ix =
    record { verdict = end_verdict ix.owed (length f) (length ix.symbols) (length ix.statements); index = ix }

-- a fault decides, at the record's offset; a good record leaves the verdict to the rest
unfoldable pub decided : Fault → ℕ → Index → Outcome → Outcome
decided None o ix rest = rest
decided (Some why) o ix rest = refusal why o ix

-- the records from offset `o` on; the first number only bounds how many there can be: a good record takes at least 6 bytes, so
-- that `length f + 1` is never used up
unfoldable pub walk : ℕ → List ℕ → Index → ℕ → Outcome
walk zero f ix o = at_end f ix
walk (suc k) f ix o =
    let rest = walk k f (after f ix o) (next_at f o) in
    pick (at_most (length f) o)
    (at_end f ix)
    (decided (fault_at f ix.symbols ix.statements ix.owed o) o ix rest)

-- the whole file: at most 1,048,576 bytes, tested first, place 0
unfoldable pub outcome : List ℕ → Outcome
outcome f =
    pick (below 1048576 (length f))
    (refusal TooMany 0 nothing)
    (walk (length f + 1) f nothing 0)

unfoldable pub verdict : List ℕ → Verdict
verdict f = (outcome f).verdict

unfoldable pub index : List ℕ → Index
index f = (outcome f).index

-- a table whose front is these offsets, and whose other entries are as they were
unfoldable pub laid : List ℕ → List ℕ → List ℕ
laid offsets table = offsets ++ drop (length offsets) table

-- what the file check promises: the answer is the file's verdict; the front of each table holds the offsets of the symbols and of
-- the statements that were read, in file order, and its other entries are as they were. The tables are handed back to the call that
-- lent them, and that call clears them
pub record Checked (f syms stmts syms' stmts' : List ℕ) (answer : Verdict) : Type 0 where
  pub answers : answer ≡ verdict f
  pub symbols_laid : syms' ≡ laid (index f).symbols syms
  pub statements_laid : stmts' ≡ laid (index f).statements stmts
