-- What an answer of the code stands for in the definition of a run, and what it tells of the statement that it names.
use Rattle.std.specs.Prelude.{ℕ, ◌<◌, ◌≡◌, Bool, ◌⊎◌, List, length, get_or, Some, None, Err}
use Rattle.std.proofs.Math.Option.{Option, none, some}
use Rattle.frames.specs.Logic.{either, no}
use Rattle.frames.specs.Database.{Database, database, statement_at}
use Rattle.frames.specs.Facts.{◌∈◌, statement_of}
use Rattle.frames.specs.declared.numbers.PlaceNo.{PlaceNo}
use Rattle.frames.specs.declared.numbers.StatementNo.{StatementNo}
use Rattle.frames.specs.Search.{FoundStatement}
use Rattle.machine.specs.Chain.{Result, fine, stop, unless}
use Rattle.machine.specs.Ground.{is_essential, among}
use Rattle.machine.specs.Reading.{split}
use Rattle.machine.specs.Memory.{Room, Memory, applies, place_of}
use Rattle.machine.specs.Prepare.{Ready, ready, prepare_hypothesis, prepare_place, sought, sought_label, prepare_statement, prepare_found, prepare_local, ambiguous, prepare_normal}
use Rattle.machine.specs.declared.Refusal.TheVariants.{ChainBackref}
use Rattle.resolve.specs.Readied.{Readied, Place, Hypothesis, Frame}
use Rattle.resolve.specs.Filed.{Filed}
use Rattle.resolve.specs.Locals.{locals_of}

-- the statement that is found, or none
unfoldable pub statement_found : FoundStatement → Option ℕ
statement_found (Some s) = some s.0
statement_found None = none

-- the definition's result for an answer of the code
unfoldable pub readied : Database → Room → Memory → Readied → Result Ready
readied db room m (Place k) = prepare_place m k.0
readied db room m (Hypothesis h) = prepare_hypothesis db room m h.0
readied db room m (Frame a) = fine (ready m (applies a.0))
readied db room m (Err why) = stop why

-- a $f or $e before p; a $e only where p lists it
pub record Supposable (db : Database) (p h : ℕ) : Type 0 where
  pub earlier : h < p
  pub kind : ((statement_of db h).kind ≡ 2) ⊎ ((statement_of db h).kind ≡ 3)
  pub own : ((statement_of db h).kind ≡ 2) ⊎ (h ∈ (statement_of db p).hyps)

-- a $a or $p before p
pub record Applicable (db : Database) (p a : ℕ) : Type 0 where
  pub earlier : a < p
  pub kind : ((statement_of db a).kind ≡ 4) ⊎ ((statement_of db a).kind ≡ 5)

-- what an answer names is of its kind
pub record Sensible (db : Database) (p : ℕ) (answer : Readied) : Type 0 where
  pub hypothesis : (h : StatementNo) → answer ≡ Hypothesis h → Supposable db p h.0
  pub frame : (a : StatementNo) → answer ≡ Frame a → Applicable db p a.0

-- a statement that a label may name: a $e only where p lists it
pub record Nameable (db : Database) (p s : ℕ) : Type 0 where
  pub there : s < length db.statements
  pub own : (statement_of db s).kind ≡ 3 → s ∈ (statement_of db p).hyps

-- the same, as it is tested in the file: s is no $e, or p lists it
unfoldable pub may_name : List ℕ → List ℕ → ℕ → ℕ → Bool
may_name f stmts p s =
    either (no (is_essential (statement_at f (get_or stmts s 0)))) (among (statement_at f (get_or stmts p 0)).hyps s)

-- the $f, $a or $p of this label
pub record FindsNamed (f stmts label : List ℕ) (answer : FoundStatement) : Type 0 where
  pub finds : (syms : List ℕ) → Filed f syms stmts → sought (database f) label ≡ statement_found answer

-- the statement that this label names in a proof of p
pub record FindsLabel (f stmts : List ℕ) (p : ℕ) (label : List ℕ) (answer : FoundStatement) : Type 0 where
  pub finds : (syms : List ℕ) → Filed f syms stmts → p < length (database f).statements
      → sought_label (database f) p label ≡ statement_found answer
  pub nameable : (syms : List ℕ) (s : StatementNo) → Filed f syms stmts → p < length (database f).statements → answer ≡ Some s
      → Nameable (database f) p s.0

-- statement s is prepared as the definition prepares it; it is no place
pub record PreparesStatement (f stmts : List ℕ) (p s : ℕ) (answer : Readied) : Type 0 where
  pub follows : (syms : List ℕ) (room : Room) (m : Memory) → Filed f syms stmts → p < length (database f).statements
      → s < length (database f).statements → prepare_statement (database f) p room m s ≡ readied (database f) room m answer
  pub sensible : (syms : List ℕ) → Filed f syms stmts → p < length (database f).statements → Nameable (database f) p s
      → Sensible (database f) p answer
  pub nowhere : (k : PlaceNo) → answer ≡ Place k → ⊥

-- a roster label is prepared as the definition prepares it; it names no place
pub record PreparesLabel (f stmts : List ℕ) (p : ℕ) (label : List ℕ) (answer : Readied) : Type 0 where
  pub follows : (syms : List ℕ) (room : Room) (m : Memory) → Filed f syms stmts → p < length (database f).statements
      → prepare_found (database f) p room m (sought_label (database f) p label) ≡ readied (database f) room m answer
  pub sensible : (syms : List ℕ) → Filed f syms stmts → p < length (database f).statements → Sensible (database f) p answer
  pub nowhere : (k : PlaceNo) → answer ≡ Place k → ⊥

-- whether the local label of a token is that of a $f, $a or $p
pub record TellsAmbiguous (f stmts token : List ℕ) (answer : Bool) : Type 0 where
  pub tells : (syms : List ℕ) → Filed f syms stmts → answer ≡ ambiguous (database f) (split token).local

-- the label of a normal token that is no statement's is prepared as the definition prepares it
pub record PreparesLocal (given : Bool) (label text table : List ℕ) (count : ℕ) (answer : Readied) : Type 0 where
  pub follows : (db : Database) (room : Room) (m : Memory) → m.locals ≡ locals_of text table count
      → unless given ChainBackref (prepare_local m (place_of label m.locals)) ≡ readied db room m answer
  pub sensible : (db : Database) (p : ℕ) → Sensible db p answer

-- a normal token is prepared as the definition prepares it, where the table shows the local labels
pub record PreparesToken (f stmts : List ℕ) (p : ℕ) (token text table : List ℕ) (count : ℕ) (answer : Readied) : Type 0 where
  pub follows : (syms : List ℕ) (room : Room) (m : Memory) → Filed f syms stmts → p < length (database f).statements
      → m.locals ≡ locals_of text table count
      → prepare_normal (database f) p room m (split token) ≡ readied (database f) room m answer
  pub sensible : (syms : List ℕ) → Filed f syms stmts → p < length (database f).statements → Sensible (database f) p answer
