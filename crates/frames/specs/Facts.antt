-- What the layers above may rely on: the facts that hold of the database of a good frame file, one by one, in document 01's
-- words. A symbol number counts into `symbols`, a statement number into `statements`.
use Rattle.std.specs.Prelude.{ℕ, ◌≤◌, ◌<◌, ◌≡◌, ◌⊎◌, length, get_or}
use mathlib.Core.List.{List, [], Memᴰ}
use Rattle.frames.specs.Layout.{kind_at, next_at}
use Rattle.frames.specs.Database.{Symbol, Statement, Database, database}

infix 40 ◌∈◌
-- x stands in the list
abbrev pub ◌∈◌ : {A : Type 0} → A → List A → Type 0
x ∈ xs = Memᴰ x xs

-- the symbol of a number, and the statement of a number; an empty one where the number is not defined
unfoldable pub symbol_of : Database → ℕ → Symbol
symbol_of db s = get_or db.symbols s (record { at = 0; class = 0; name = [] })

unfoldable pub statement_of : Database → ℕ → Statement
statement_of db p =
    get_or db.statements p
    (record { at = 0; kind = 0; end = 0; hyps = []; pairs = []; symbols = []; label = []; text = [] })

-- the first symbol is the typecode; the variable of a $f is its second
unfoldable pub typecode : Statement → ℕ
typecode st = get_or st.symbols 0 0

unfoldable pub floated : Statement → ℕ
floated st = get_or st.symbols 1 0

-- name bytes are 21 to 7E hex without 24 (`$`)
pub record NameByte (b : ℕ) : Type 0 where
  pub low : 33 ≤ b
  pub high : b ≤ 126
  pub not_dollar : b ≡ 36 → ⊥

-- label bytes are letters, digits, `-`, `_`, `.`
pub data LabelByte (b : ℕ) : Type 0 where
  small : 97 ≤ b → b ≤ 122 → LabelByte b
  capital : 65 ≤ b → b ≤ 90 → LabelByte b
  digit : 48 ≤ b → b ≤ 57 → LabelByte b
  hyphen : b ≡ 45 → LabelByte b
  underscore : b ≡ 95 → LabelByte b
  dot : b ≡ 46 → LabelByte b

-- the symbol number is defined, and its symbol is a constant
pub record Constant (db : Database) (s : ℕ) : Type 0 where
  pub defined : s < length db.symbols
  pub class : (symbol_of db s).class ≡ 0

-- the symbol number is defined, and its symbol is a variable
pub record Variable (db : Database) (s : ℕ) : Type 0 where
  pub defined : s < length db.symbols
  pub class : (symbol_of db s).class ≡ 1

-- statement h is a $f or $e that is active at statement p
pub record Active (db : Database) (p h : ℕ) : Type 0 where
  pub earlier : h < p
  pub kind : ((statement_of db h).kind ≡ 2) ⊎ ((statement_of db h).kind ≡ 3)
  pub scope : ((statement_of db h).end ≡ 4294967295) ⊎ (p < (statement_of db h).end)

-- statement h is a $f of variable v
pub record Floats (db : Database) (v h : ℕ) : Type 0 where
  pub kind : (statement_of db h).kind ≡ 2
  pub variable : floated (statement_of db h) ≡ v

-- among the listed hypotheses there is a $f of variable v whose number is below `limit`
pub record Given (db : Database) (hyps : List ℕ) (limit v : ℕ) : Type 0 where
  pub by : ℕ
  pub listed : by ∈ hyps
  pub before : by < limit
  pub floats : Floats db v by

-- the facts about each symbol
pub record SymbolFacts (symbol : Symbol) : Type 0 where
  -- it is a constant or a variable
  pub class : (symbol.class ≡ 0) ⊎ (symbol.class ≡ 1)
  -- its name has 1 to 64 bytes, all of them name bytes
  pub name_some : 1 ≤ length symbol.name
  pub name_size : length symbol.name ≤ 64
  pub name_bytes : (b : ℕ) → b ∈ symbol.name → NameByte b

-- the facts about each statement, where `p` is its number
pub record StatementFacts (db : Database) (p : ℕ) (statement : Statement) : Type 0 where
  -- it is a $f, $e, $a or $p
  pub kind_low : 2 ≤ statement.kind
  pub kind_high : statement.kind ≤ 5
  -- its label has 1 to 64 bytes, all of them label bytes
  pub label_some : 1 ≤ length statement.label
  pub label_size : length statement.label ≤ 64
  pub label_bytes : (b : ℕ) → b ∈ statement.label → LabelByte b
  -- it has 1 to 1,024 symbols, a $f exactly two
  pub symbols_some : 1 ≤ length statement.symbols
  pub symbols_few : length statement.symbols ≤ 1024
  pub float_symbols : statement.kind ≡ 2 → length statement.symbols ≡ 2
  -- it lists at most 64 hypotheses and 512 pairs; a $f or $e lists none
  pub hyps_few : length statement.hyps ≤ 64
  pub pairs_few : length statement.pairs ≤ 512
  pub no_hyps : statement.kind ≤ 3 → statement.hyps ≡ []
  pub no_pairs : statement.kind ≤ 3 → statement.pairs ≡ []
  -- every symbol number is defined, the typecode is a constant, the variable of a $f is a variable
  pub symbols_defined : (s : ℕ) → s ∈ statement.symbols → s < length db.symbols
  pub typecode_constant : Constant db (typecode statement)
  pub float_variable : statement.kind ≡ 2 → Variable db (floated statement)
  -- both members of a pair are variables, and they differ
  pub pair_first : (q : ℕ × ℕ) → q ∈ statement.pairs → Variable db q.0
  pub pair_second : (q : ℕ × ℕ) → q ∈ statement.pairs → Variable db q.1
  pub pair_differs : (q : ℕ × ℕ) → q ∈ statement.pairs → q.0 ≡ q.1 → ⊥
  -- the hypothesis list rises strictly, and every listed hypothesis is active here
  pub hyps_rise : (i j : ℕ) → i < j → j < length statement.hyps → get_or statement.hyps i 0 < get_or statement.hyps j 0
  pub hyps_active : (h : ℕ) → h ∈ statement.hyps → Active db p h
  -- every variable of the claim of a $a or $p has a listed $f
  pub claim_given : 4 ≤ statement.kind → (v : ℕ) → v ∈ statement.symbols → Variable db v → Given db statement.hyps p v
  -- every variable of a listed $e has a listed $f before that $e
  pub essential_given : (e : ℕ) → e ∈ statement.hyps → (statement_of db e).kind ≡ 3 → (v : ℕ) → v ∈ (statement_of db e).symbols
      → Variable db v → Given db statement.hyps e v
  -- no two listed $f have one variable
  pub one_float : (g h v : ℕ) → g ∈ statement.hyps → h ∈ statement.hyps → Floats db v g → Floats db v h → g ≡ h
  -- the proof text of a $p has at most 65,536 bytes
  pub text_size : statement.kind ≡ 5 → length statement.text ≤ 65536

-- the facts about the whole database
pub record Facts (db : Database) : Type 0 where
  -- at most 4,096 symbols, at most 4,096 statements
  pub symbol-count : length db.symbols ≤ 4096
  pub statement_count : length db.statements ≤ 4096
  -- each symbol and each statement by its number
  pub symbol : (s : ℕ) → s < length db.symbols → SymbolFacts (symbol_of db s)
  pub statement : (p : ℕ) → p < length db.statements → StatementFacts db p (statement_of db p)
  -- no two symbols have one name, no two statements one label
  pub names_differ : (s t : ℕ) → s < length db.symbols → t < length db.symbols
      → (symbol_of db s).name ≡ (symbol_of db t).name → s ≡ t
  pub labels_differ : (p q : ℕ) → p < length db.statements → q < length db.statements
      → (statement_of db p).label ≡ (statement_of db q).label → p ≡ q

-- the facts about where the records of the database lie in the file
pub record FileFacts (f : List ℕ) : Type 0 where
  -- at most 1,048,576 bytes
  pub size : length f ≤ 1048576
  -- the record of a symbol is of kind 1, and lies within the file
  pub symbol_kind : (s : ℕ) → s < length (database f).symbols → kind_at f (symbol_of (database f) s).at ≡ 1
  pub symbol_within : (s : ℕ) → s < length (database f).symbols → next_at f (symbol_of (database f) s).at ≤ length f
  -- the record of a statement is of its kind, and lies within the file
  pub statement_kind : (p : ℕ) → p < length (database f).statements
      → kind_at f (statement_of (database f) p).at ≡ (statement_of (database f) p).kind
  pub statement_within : (p : ℕ) → p < length (database f).statements
      → next_at f (statement_of (database f) p).at ≤ length f
  -- the record right after a $p is of kind 6, and lies within the file
  pub proof_follows : (p : ℕ) → p < length (database f).statements → (statement_of (database f) p).kind ≡ 5
      → kind_at f (next_at f (statement_of (database f) p).at) ≡ 6
  pub proof_within : (p : ℕ) → p < length (database f).statements → (statement_of (database f) p).kind ≡ 5
      → next_at f (next_at f (statement_of (database f) p).at) ≤ length f
