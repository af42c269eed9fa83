-- What one step of the walk over a file does to the tables.
use Rattle.std.specs.Prelude.{ℕ, ◌+◌, ◌≡◌, List, set}
use Rattle.frames.specs.Logic.{equal, pick}
use Rattle.frames.specs.Layout.{kind_at, next_at, is_statement}
use Rattle.filecheck.specs.declared.Walk.{Walk}

-- a step over a good record: its offset is laid into its table and counted, and the walk stands at the next record
pub record Advanced (f syms stmts : List ℕ) (st : Walk) (syms' stmts' : List ℕ) (now : Walk) : Type 0 where
  pub at_next : now.at ≡ next_at f st.at
  pub symbols_counted : now.symbols ≡ pick (equal (kind_at f st.at) 1) (st.symbols + 1) st.symbols
  pub statements_counted : now.statements ≡ pick (is_statement (kind_at f st.at)) (st.statements + 1) st.statements
  pub owed_now : now.owed ≡ equal (kind_at f st.at) 5
  pub symbols_laid : syms' ≡ pick (equal (kind_at f st.at) 1) (set syms st.symbols st.at) syms
  pub statements_laid : stmts' ≡ pick (is_statement (kind_at f st.at)) (set stmts st.statements st.at) stmts
