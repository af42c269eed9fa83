-- What the functions over the pool mean for lists of symbols: the bytes are the packed text of the list that the definition of a run has.
-- A caller cites these records and never looks at bytes.
use Rattle.std.specs.Prelude.{ℕ, ◌<◌, ◌≡◌, Bool, true, List, length, take}
use Rattle.book.specs.Book.{Substitution, substituted}
use Rattle.frames.specs.Logic.{same}
use Rattle.frames.specs.Verdict.{index}
use Rattle.frames.specs.Database.{Database, database, GoodFile}
use Rattle.frames.specs.Facts.{◌∈◌, statement_of}
use Rattle.machine.specs.Ground.{is_variable, expression_of}
use Rattle.packed.specs.Packing.{packed}
use Rattle.packed.specs.Pool.{range, image, Adds, Grown}
use Rattle.packed.specs.Images.{set_of, Numbers}

-- the file is good, and the front of the table has the offsets of its symbols
pub record Indexed (f syms : List ℕ) : Type 0 where
  pub good : GoodFile f
  pub symbols : take (length (index f).symbols) syms ≡ (index f).symbols

-- these symbols are defined
pub record Defined (db : Database) (xs : List ℕ) : Type 0 where
  pub defined : (s : ℕ) → s ∈ xs → s < length db.symbols

-- a statement of the file, by its offset
pub record Located (f : List ℕ) (a at : ℕ) : Type 0 where
  pub there : a < length (database f).statements
  pub offset : at ≡ (statement_of (database f) a).at

-- the table and the pool show a substitution, for the variables among these symbols
pub record Shows (db : Database) (froms tos pool : List ℕ) (σ : Substitution) (xs : List ℕ) : Type 0 where
  pub shows : (s : ℕ) → s ∈ xs → is_variable db s ≡ true → image froms tos pool s ≡ packed db (σ s)
  pub defined : (s : ℕ) → s ∈ xs → is_variable db s ≡ true → Defined db (σ s)

-- what is added is the packed text of the statement's symbols as substituted
pub record Substitutes (f syms : List ℕ) (at : ℕ) (froms tos : List ℕ) (used limit : ℕ) (pool pool' : List ℕ) (answer : Grown) : Type 0 where
  pub adds : (a : ℕ) (σ : Substitution) → Indexed f syms → Located f a at
      → Shows (database f) froms tos pool σ (expression_of (database f) a).symbols
      → Adds (packed (database f) (substituted (is_variable (database f)) σ (expression_of (database f) a).symbols)) used limit pool pool' answer

-- what is added is the packed text of the statement's symbols
pub record Spells (f syms : List ℕ) (at used limit : ℕ) (pool pool' : List ℕ) (answer : Grown) : Type 0 where
  pub adds : (a : ℕ) → Indexed f syms → Located f a at
      → Adds (packed (database f) (expression_of (database f) a).symbols) used limit pool pool' answer

-- the answer tells whether an entry is the statement's symbols as substituted
pub record Compares (f syms : List ℕ) (at : ℕ) (froms tos pool : List ℕ) (from to : ℕ) (answer : Bool) : Type 0 where
  pub tells : (a : ℕ) (σ : Substitution) (xs : List ℕ) → Indexed f syms → Located f a at
      → Shows (database f) froms tos pool σ (expression_of (database f) a).symbols → Defined (database f) xs
      → range from to pool ≡ packed (database f) xs
      → answer ≡ same xs (substituted (is_variable (database f)) σ (expression_of (database f) a).symbols)

-- the answer tells whether an entry is the statement's symbols
pub record ComparesRaw (f syms : List ℕ) (at : ℕ) (pool : List ℕ) (from to : ℕ) (answer : Bool) : Type 0 where
  pub tells : (a : ℕ) (xs : List ℕ) → Indexed f syms → Located f a at → Defined (database f) xs → range from to pool ≡ packed (database f) xs
      → answer ≡ same xs (expression_of (database f) a).symbols

-- the answer is the set of the numbers of the variables that occur in the statement's symbols as substituted, where the table has the sets
-- of the images
pub record Gathers (f syms : List ℕ) (at : ℕ) (sets words : List ℕ) : Type 0 where
  pub gathers : (a : ℕ) (σ : Substitution) (vs : List ℕ) → Indexed f syms → Located f a at
      → ((s : ℕ) → s ∈ (expression_of (database f) a).symbols → is_variable (database f) s ≡ true → Numbers (database f) vs (σ s) (set_of sets s))
      → Numbers (database f) vs (substituted (is_variable (database f)) σ (expression_of (database f) a).symbols) words
