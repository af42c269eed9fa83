-- Where a run stands: what is under check, the tables, and that they show some memory of the definition; and what a part of a run does.
use Rattle.std.specs.Prelude.{ℕ, ◌*◌, ◌≤◌, ◌<◌, ◌≡◌, List, length, Ok}
use Rattle.frames.specs.Database.{database}
use Rattle.machine.specs.Chain.{Result}
use Rattle.machine.specs.Memory.{Memory}
use Rattle.resolve.specs.Filed.{Filed}
use Rattle.memory.specs.declared.Counts.{Counts}
use Rattle.memory.specs.declared.Limits.{Limits}
use Rattle.memory.specs.Outcome.{Outcome}
use Rattle.memory.specs.Shown.{Bench, Lent, bench, lent, Shown, Ends}
use Rattle.apply.specs.Hyps.{Ranged}
use Rattle.apply.specs.Step.{Under}

-- what is under check: the file with its index, the statement, the text of its proof, the table of its disjoint pairs, and the limits
pub record Env : Type 0 where
  pub file : List ℕ
  pub symbols : List ℕ
  pub statements : List ℕ
  pub asked : ℕ
  pub text : List ℕ
  pub table : List ℕ
  pub limits : Limits

abbrev pub env : List ℕ → List ℕ → List ℕ → ℕ → List ℕ → List ℕ → Limits → Env
env f syms stmts p text table limits =
    record { file = f; symbols = syms; statements = stmts; asked = p; text = text; table = table; limits = limits }

abbrev pub bench_of : Env → Bench
bench_of e = bench e.file e.symbols e.statements e.asked e.limits e.text

-- the tables: seats, images (from, to, set), variable numbers, pool, stack, places, local labels, tree entries
pub record Tables : Type 0 where
  pub seats : List ℕ
  pub froms : List ℕ
  pub tos : List ℕ
  pub sets : List ℕ
  pub numbers : List ℕ
  pub pool : List ℕ
  pub stack : List ℕ
  pub places : List ℕ
  pub locals : List ℕ
  pub tree : List ℕ

abbrev pub tables : List ℕ → List ℕ → List ℕ → List ℕ → List ℕ → List ℕ → List ℕ → List ℕ → List ℕ → List ℕ → Tables
tables seats froms tos sets numbers pool stack places locals tree =
    record { seats = seats; froms = froms; tos = tos; sets = sets; numbers = numbers; pool = pool; stack = stack; places = places; locals = locals; tree = tree }

abbrev pub lent_of : Tables → Lent
lent_of t = lent t.numbers t.pool t.stack t.places t.locals t.tree

-- the tables with these places
abbrev pub with_places_of : Tables → List ℕ → Tables
with_places_of t places = tables t.seats t.froms t.tos t.sets t.numbers t.pool t.stack places t.locals t.tree

-- what does not change in a run
pub record Checked (e : Env) : Type 0 where
  pub filed : Filed e.file e.symbols e.statements
  pub asked : e.asked < length (database e.file).statements
  pub under : Under e.file e.asked e.table
  pub small : e.limits.pool ≤ 65536
  pub text_few : length e.text ≤ 65536

-- how many symbols the file has
abbrev pub width_of : Env → ℕ
width_of e = length (database e.file).symbols

-- the tables of images have an entry for each of n symbols, and their ranges are within the used part of the pool
pub record Sized (n : ℕ) (t : Tables) (used : ℕ) : Type 0 where
  pub seats : 64 ≤ length t.seats
  pub froms : length t.froms ≡ n
  pub tos : length t.tos ≡ n
  pub sets : length t.sets ≡ 4 * n
  pub ranged : Ranged t.froms t.tos used

-- the run may go on from here
pub record Running (e : Env) (t : Tables) (c : Counts) : Type 0 where
  pub checked : Checked e
  pub sized : Sized (width_of e) t c.used
  pub memory : Memory
  pub shown : Shown (bench_of e) (lent_of t) c memory

-- a part of a run: for every memory that the tables show, the outcome is the definition's, and then the tables show what comes out
pub record Proceeds (e : Env) (t t' : Tables) (c : Counts) (op : Memory → Result Memory) (answer : Outcome) : Type 0 where
  pub sized : (c' : Counts) → answer ≡ Ok c' → Sized (width_of e) t' c'.used
  pub follows : (m : Memory) → Shown (bench_of e) (lent_of t) c m → Ends (Shown (bench_of e) (lent_of t')) (op m) answer
