-- Two databases that are the same but for the proof text of one statement, and for where the records lie.
use Rattle.std.specs.Prelude.{ℕ, ◌≡◌, List, length}
use Rattle.frames.specs.Database.{Symbol, Statement, Database}
use Rattle.frames.specs.Facts.{symbol_of, statement_of}

-- two symbols, but for their offsets
pub record SameSymbol (a b : Symbol) : Type 0 where
  pub class : b.class ≡ a.class
  pub name : b.name ≡ a.name

-- two statements, but for their offsets and their proof texts
pub record SameStatement (a b : Statement) : Type 0 where
  pub kind : b.kind ≡ a.kind
  pub end : b.end ≡ a.end
  pub hyps : b.hyps ≡ a.hyps
  pub pairs : b.pairs ≡ a.pairs
  pub symbols : b.symbols ≡ a.symbols
  pub label : b.label ≡ a.label

-- the second database is the first with this text as the proof of statement p
pub record SameBut (db db' : Database) (p : ℕ) (text : List ℕ) : Type 0 where
  pub symbol-count : length db'.symbols ≡ length db.symbols
  pub statement_count : length db'.statements ≡ length db.statements
  pub symbol : (s : ℕ) → SameSymbol (symbol_of db s) (symbol_of db' s)
  pub statement : (s : ℕ) → SameStatement (statement_of db s) (statement_of db' s)
  pub text_is : (statement_of db' p).text ≡ text
  pub text_kept : (s : ℕ) → (s ≡ p → ⊥) → (statement_of db' s).text ≡ (statement_of db s).text
