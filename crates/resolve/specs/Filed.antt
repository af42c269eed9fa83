-- The file and its index, as the engine is handed them.
use Rattle.std.specs.Prelude.{ℕ, ◌≡◌, List}
use Rattle.frames.specs.Verdict.{index}
use Rattle.frames.specs.Database.{GoodFile}

-- the file is good, and the two tables are its index: the offsets of its symbols and of its statements
pub record Filed (f syms stmts : List ℕ) : Type 0 where
  pub good : GoodFile f
  pub symbols : syms ≡ (index f).symbols
  pub statements : stmts ≡ (index f).statements
