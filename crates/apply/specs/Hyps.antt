-- The hypotheses of an assertion with their entries: what each does to the table of images, and which result of the definition the answer is.
use Rattle.std.specs.Prelude.{ℕ, ◌+◌, ◌*◌, ◌≤◌, ◌<◌, ◌%◌, ◌≡◌, Bool, true, false, List, length, get_or, set, Ok, Err}
use Rattle.frames.specs.Logic.{equal, pick}
use Rattle.frames.specs.Database.{Database, database, statement_at}
use Rattle.frames.specs.Facts.{◌∈◌, statement_of, floated, typecode}
use Rattle.machine.specs.declared.Refusal.TheVariants.{StepFloatWrongType, StepEssenWrongType, StepEssenWrong}
use Rattle.machine.specs.Chain.{Result, stop}
use Rattle.machine.specs.Ground.{is_variable, mandatory}
use Rattle.machine.specs.Memory.{Proved, Memory}
use Rattle.machine.specs.Apply.{bound, check_hyps}
use Rattle.packed.specs.Packing.{packed}
use Rattle.packed.specs.Pool.{image}
use Rattle.packed.specs.Images.{set_of, store_set, Numbers}
use Rattle.packed.specs.Lists.{Defined, Located, Compares}
use Rattle.resolve.specs.Filed.{Filed}
use Rattle.memory.specs.declared.table.Row.{Row}
use Rattle.memory.specs.Table.{RowAt}
use Rattle.memory.specs.Shown.{Along, Means}
use Rattle.machine.specs.Passed.{Passed}

-- a row with its range within the first `used` bytes: the row itself, where its range is there
pub record Clamped (row : Row) (used : ℕ) (now : Row) : Type 0 where
  pub rises : now.from ≤ now.to
  pub within : now.to ≤ used
  pub is : row.from ≤ row.to → row.to ≤ used → now ≡ row

-- every range of the table of images rises and ends within the first n bytes
pub record Ranged (froms tos : List ℕ) (n : ℕ) : Type 0 where
  pub rises : (s : ℕ) → get_or froms s 0 ≤ get_or tos s 0
  pub within : (s : ℕ) → get_or tos s 0 ≤ n

-- a $f: 35, or its variable is bound
pub record BindsFloat (f : List ℕ) (at : ℕ) (row : Row) (froms tos sets froms' tos' sets' : List ℕ) (answer : Passed) : Type 0 where
  pub answers : answer ≡ pick (equal row.head (typecode (statement_at f at))) (Ok tt) (Err StepFloatWrongType)
  pub froms_is : froms' ≡ pick (equal row.head (typecode (statement_at f at))) (set froms (floated (statement_at f at) % 65536) row.from) froms
  pub tos_is : tos' ≡ pick (equal row.head (typecode (statement_at f at))) (set tos (floated (statement_at f at) % 65536) row.to) tos
  pub sets_is : sets' ≡ pick (equal row.head (typecode (statement_at f at))) (store_set sets (floated (statement_at f at) % 65536) row.vars.words) sets

-- a $e: 36, then 37 where the row's symbols are not its symbols as substituted
pub record ChecksEssential (f syms : List ℕ) (at : ℕ) (row : Row) (froms tos pool : List ℕ) (answer : Passed) : Type 0 where
  pub other : equal row.head (typecode (statement_at f at)) ≡ false → answer ≡ Err StepEssenWrongType
  pub alike : equal row.head (typecode (statement_at f at)) ≡ true
      → (same : Bool) × Compares f syms at froms tos pool row.from row.to same × (answer ≡ pick same (Ok tt) (Err StepEssenWrong))

-- a $f or $e with its entry
pub record ProcessesHyp (f syms : List ℕ) (at : ℕ) (row : Row) (froms tos sets pool froms' tos' sets' : List ℕ) (answer : Passed) : Type 0 where
  pub ranged : (n : ℕ) → Ranged froms tos n → row.to ≤ n → Ranged froms' tos' n
  pub froms_sized : length froms' ≡ length froms
  pub tos_sized : length tos' ≡ length tos
  pub sets_sized : length sets' ≡ length sets
  pub float : (statement_at f at).kind ≡ 2 → BindsFloat f at row froms tos sets froms' tos' sets' answer
  pub essential : ((statement_at f at).kind ≡ 2 → ⊥)
      → ChecksEssential f syms at row froms tos pool answer × ((froms' ≡ froms) × ((tos' ≡ tos) × (sets' ≡ sets)))

-- the definition's result for an answer of the code
unfoldable pub processed : Passed → Result Memory → Result Memory
processed (Ok tt) rest = rest
processed (Err why) rest = stop why

-- the table has the image of variable v: its packed symbols, and the numbers of its variables
pub record ImageShown (db : Database) (vs pool : List ℕ) (used : ℕ) (froms tos sets : List ℕ) (v : ℕ) (xs : List ℕ) : Type 0 where
  pub rises : get_or froms v 0 ≤ get_or tos v 0
  pub within : get_or tos v 0 ≤ used
  pub text : image froms tos pool v ≡ packed db xs
  pub defined : Defined db xs
  pub known : (u : ℕ) → u ∈ xs → is_variable db u ≡ true → u ∈ vs
  pub numbers : Numbers db vs xs (set_of sets v)

-- the entry in seat j, counted from `base`, stands for what x proves
pub record SeatMeans (db : Database) (vs pool : List ℕ) (used : ℕ) (stack : List ℕ) (base : ℕ) (seats : List ℕ) (j : ℕ) (x : Proved) : Type 0 where
  pub few : get_or seats j 0 < 64
  pub row : Row
  pub at : RowAt stack (base + get_or seats j 0) row
  pub means : Means db vs pool used row x.expression

-- an assertion and what its entries prove, in the order of its hypotheses
pub record Seated (f syms stmts : List ℕ) (at : ℕ) (stack : List ℕ) (base : ℕ) (seats : List ℕ) (used : ℕ) (pool : List ℕ) (a : ℕ) (xs : List Proved) (vs : List ℕ) : Type 0 where
  pub filed : Filed f syms stmts
  pub located : Located f a at
  pub many : length xs ≡ length (statement_of (database f) a).hyps
  pub shown : Along (SeatMeans (database f) vs pool used stack base seats) 0 xs

-- the hypotheses with their entries: the definition's tests pass or refuse alike; where they pass, the table has the images of the mandatory variables
pub record ProcessesHyps (f syms stmts : List ℕ) (at : ℕ) (stack : List ℕ) (base : ℕ) (seats : List ℕ) (used : ℕ) (froms tos sets pool froms' tos' sets' : List ℕ) (answer : Passed) : Type 0 where
  pub ranged : Ranged froms' tos' used
  pub froms_sized : length froms' ≡ length froms
  pub tos_sized : length tos' ≡ length tos
  pub sets_sized : length sets' ≡ length sets
  pub checks : (a : ℕ) (xs : List Proved) (vs : List ℕ) (rest : Result Memory) → Seated f syms stmts at stack base seats used pool a xs vs
      → length (database f).symbols ≤ length froms → length (database f).symbols ≤ length tos → 4 * length (database f).symbols ≤ length sets
      → check_hyps (database f) (bound (database f) (statement_of (database f) a).hyps xs) (statement_of (database f) a).hyps xs rest ≡ processed answer rest
  pub images : (a : ℕ) (xs : List Proved) (vs : List ℕ) → Seated f syms stmts at stack base seats used pool a xs vs
      → length (database f).symbols ≤ length froms → length (database f).symbols ≤ length tos → 4 * length (database f).symbols ≤ length sets → answer ≡ (Ok tt) → (v : ℕ) → v ∈ mandatory (database f) (statement_of (database f) a).hyps
      → ImageShown (database f) vs pool used froms' tos' sets' v (bound (database f) (statement_of (database f) a).hyps xs v)

-- the row in seat j, with its range within the first `used` bytes
pub record SeatRow (stack : List ℕ) (base : ℕ) (seats : List ℕ) (j used : ℕ) (now : Row) : Type 0 where
  pub rises : now.from ≤ now.to
  pub within : now.to ≤ used
  pub is : (row : Row) → get_or seats j 0 < 64 → RowAt stack (base + get_or seats j 0) row → row.from ≤ row.to → row.to ≤ used → now ≡ row
