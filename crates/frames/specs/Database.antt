-- The database that a good frame file is: its symbols and statements in file order, decoded, with the offset of each. A symbol
-- number or a statement number counts into these lists.
use Rattle.std.specs.Prelude.{ℕ, ◌≡◌, List, [], map, length}
use Rattle.frames.specs.Logic.{equal, pick}
use Rattle.frames.specs.Layout.{supposes, kind_at, next_at, class_at, scope_end_at, rest_at, hyps_at, pairs_at, symbols_at}
use Rattle.frames.specs.Verdict.{Index, verdict, index, Good}

-- a symbol: its offset, class (0 constant, 1 variable) and name
pub record Symbol : Type 0 where
  pub at : ℕ
  pub class : ℕ
  pub name : List ℕ

-- a statement: its offset, kind ($f 2, $e 3, $a 4, $p 5), scope end (0 for a $a or $p), the hypotheses and pairs that it lists, its
-- symbols with the typecode first (a $f has its typecode and its variable), its label, and the proof text (empty for
-- all but a $p)
pub record Statement : Type 0 where
  pub at : ℕ
  pub kind : ℕ
  pub end : ℕ
  pub hyps : List ℕ
  pub pairs : List (ℕ × ℕ)
  pub symbols : List ℕ
  pub label : List ℕ
  pub text : List ℕ

pub record Database : Type 0 where
  pub symbols : List Symbol
  pub statements : List Statement

-- the symbol whose record is at `o`
unfoldable pub symbol_at : List ℕ → ℕ → Symbol
symbol_at f o = record { at = o; class = class_at f o; name = rest_at f o }

-- the statement whose record is at `o`; the proof of a $p is the text of the record after it
unfoldable pub statement_at : List ℕ → ℕ → Statement
statement_at f o =
    record {
      at = o;
      kind = kind_at f o;
      end = pick (supposes (kind_at f o)) (scope_end_at f o) 0;
      hyps = hyps_at f o;
      pairs = pairs_at f o;
      symbols = symbols_at f o;
      label = rest_at f o;
      text = pick (equal (kind_at f o) 5) (rest_at f (next_at f o)) [];
    }

-- the records at these offsets
unfoldable pub decode : List ℕ → Index → Database
decode f ix = record { symbols = map (symbol_at f) ix.symbols; statements = map (statement_at f) ix.statements }

-- the database of a good file
unfoldable pub database : List ℕ → Database
database f = decode f (index f)

-- a good file: the verdict is `Good`, with how many symbols and statements it has
pub record GoodFile (f : List ℕ) : Type 0 where
  pub is : verdict f ≡ Good (length (database f).symbols) (length (database f).statements)
