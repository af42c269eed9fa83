-- What the working memory shows: which memory of the definition the lent tables and the counts stand for.
use Rattle.std.specs.Prelude.{ℕ, zero, suc, ◌+◌, ◌*◌, ◌≤◌, ◌<◌, ◌≡◌, true, ◌⊎◌, List, [], ◌∷◌, ◌++◌, length, Ok, Err}
use Rattle.std.proofs.Math.Option.{Option, none, some}
use Rattle.book.specs.Book.{Expression, Tree}
use Rattle.frames.specs.Logic.{at_most, pick}
use Rattle.frames.specs.Database.{Database, database}
use Rattle.frames.specs.Facts.{◌∈◌, statement_of}
use Rattle.machine.specs.declared.Refusal.TheVariants.{StackFull, PlacesFull}
use Rattle.machine.specs.Chain.{Result, fine, stop}
use Rattle.machine.specs.Ground.{is_variable, mandatory}
use Rattle.machine.specs.Memory.{Room, Proved, Prepared, recalls, applies, Entry, Memory, save_top}
use Rattle.machine.specs.Run.{first_variables}
use Rattle.packed.specs.Packing.{packed}
use Rattle.packed.specs.Pool.{range}
use Rattle.packed.specs.Images.{Numbers}
use Rattle.packed.specs.Lists.{Defined}
use Rattle.variables.specs.Numbering.{Numbered}
use Rattle.resolve.specs.Locals.{locals_of}
use Rattle.tree.specs.Recorded.{Applications, Within, Denotes, Recorded}
use Rattle.memory.specs.Table.{RowAt, with_row}
use Rattle.memory.specs.declared.table.Row.{Row}
use Rattle.memory.specs.declared.Counts.{Counts}
use Rattle.memory.specs.declared.Limits.{Limits}
use Rattle.memory.specs.Outcome.{Outcome}

-- what is under check: the file with its index, the statement, the room that may be used, and the text
pub record Bench : Type 0 where
  pub file : List ℕ
  pub symbols : List ℕ
  pub statements : List ℕ
  pub asked : ℕ
  pub room : Room
  pub text : List ℕ

-- the tables: variable numbers, pool, stack, places, local labels, tree entries
pub record Lent : Type 0 where
  pub numbers : List ℕ
  pub pool : List ℕ
  pub stack : List ℕ
  pub places : List ℕ
  pub locals : List ℕ
  pub tree : List ℕ

-- the room of the limits
abbrev pub room_of : Limits → Room
room_of limits = record { pool = limits.pool; stack = limits.stack; places = limits.places }

abbrev pub bench : List ℕ → List ℕ → List ℕ → ℕ → Limits → List ℕ → Bench
bench f syms stmts p limits text =
    record { file = f; symbols = syms; statements = stmts; asked = p; room = room_of limits; text = text }

abbrev pub lent : List ℕ → List ℕ → List ℕ → List ℕ → List ℕ → List ℕ → Lent
lent numbers pool stack places locals tree =
    record { numbers = numbers; pool = pool; stack = stack; places = places; locals = locals; tree = tree }

-- each member of a list, the last one at 0 and the first at the top
pub data Down {A : Type 0} (P : ℕ → A → Type 0) : ℕ → List A → Type 0 where
  bottom : Down P 0 []
  over : {k n : ℕ} {x : A} {xs : List A} → n ≡ k + 1 → P k x → Down P k xs → Down P n (x ∷ xs)

-- each member of a list, the first one at k
pub data Along {A : Type 0} (P : ℕ → A → Type 0) : ℕ → List A → Type 0 where
  ends : {k : ℕ} → Along P k []
  next : {k n : ℕ} {x : A} {xs : List A} → n ≡ k + 1 → P k x → Along P n xs → Along P k (x ∷ xs)

-- a row stands for an expression: its typecode, its packed symbols within the used part of the pool, and the numbers of its variables, all of which have one
pub record Means (db : Database) (vs pool : List ℕ) (used : ℕ) (row : Row) (e : Expression) : Type 0 where
  pub typecode : row.head ≡ e.typecode
  pub rises : row.from ≤ row.to
  pub within : row.to ≤ used
  pub symbols : range row.from row.to pool ≡ packed db e.symbols
  pub defined : Defined db e.symbols
  pub known : (v : ℕ) → v ∈ e.symbols → is_variable db v ≡ true → v ∈ vs
  pub numbers : Numbers db vs e.symbols row.vars.words

-- the mark of a row on the stack: none, or a part of the text
unfoldable pub mark_of : List ℕ → ℕ → ℕ → Option (List ℕ)
mark_of text zero end = none
mark_of text (suc from) end = some (range from end text)

-- row k of the stack stands for an entry
pub record EntryShown (db : Database) (vs pool : List ℕ) (used : ℕ) (text stack : List ℕ) (k : ℕ) (e : Entry) : Type 0 where
  pub row : Row
  pub at : RowAt stack k row
  pub means : Means db vs pool used row e.proved.expression
  pub mark : mark_of text row.tag row.end ≡ e.mark

-- row k of the places stands for what a step recalls, or for an assertion before the statement under check
pub data PlaceShown (db : Database) (p : ℕ) (vs pool : List ℕ) (used : ℕ) (places : List ℕ) (k : ℕ) : Prepared → Type 0 where
  recalled : {x : Proved} (row : Row) → RowAt places k row → row.tag ≡ 0 → Means db vs pool used row x.expression
      → PlaceShown db p vs pool used places k (recalls x)
  applied : {a : ℕ} (row : Row) → RowAt places k row → row.tag ≡ 1 → row.head ≡ a → a < p
      → ((statement_of db a).kind ≡ 4) ⊎ ((statement_of db a).kind ≡ 5) → PlaceShown db p vs pool used places k (applies a)

-- the second list is the first one and more
pub record Extends (xs ys : List ℕ) : Type 0 where
  pub more : List ℕ
  pub is : ys ≡ xs ++ more

-- row k of the stack has the word of this entry's derivation
pub record NodeShown (f : List ℕ) (kept : Applications) (stack : List ℕ) (k : ℕ) (e : Entry) : Type 0 where
  pub row : Row
  pub at : RowAt stack k row
  pub denotes : Denotes f kept row.node e.proved.tree

-- row k of the places has the word of the derivation that a step recalls; an assertion has none
pub data NodePlaced (f : List ℕ) (kept : Applications) (places : List ℕ) (k : ℕ) : Prepared → Type 0 where
  recalled : {x : Proved} (row : Row) → RowAt places k row → Denotes f kept row.node x.tree → NodePlaced f kept places k (recalls x)
  applied : {a : ℕ} → NodePlaced f kept places k (applies a)

-- the first n tree entries hold the derivations of all that is on the stack and in the places
pub record Derivations (f entries : List ℕ) (n : ℕ) (stack : List ℕ) (depth : ℕ) (places : List ℕ) (es : List Entry) (prepared : List Prepared) : Type 0 where
  pub kept : Applications
  pub recorded : Recorded f entries kept n
  pub on_stack : Down (NodeShown f kept stack) depth es
  pub in_places : Along (NodePlaced f kept places) 0 prepared

-- the first n entries hold what was kept, and the derivation of this word
pub record Holding (f entries : List ℕ) (n : ℕ) (kept : Applications) (word : ℕ) (tree : Tree) : Type 0 where
  pub now : Applications
  pub within : Within kept now
  pub recorded : Recorded f entries now n
  pub denotes : Denotes f now word tree

-- a step that consumes h hypotheses has n tree entries used, of `used` before it; where they suffice, and held the derivations before it, they hold them still and
-- the derivation of this word too
pub record Records (f entries : List ℕ) (used : ℕ) (stack : List ℕ) (depth : ℕ) (places : List ℕ) (es : List Entry) (prepared : List Prepared) (n h word : ℕ)
    (tree : Tree) : Type 0 where
  pub few : n ≤ used + 1 + h
  pub sooner : n ≤ length entries → used ≤ length entries
  pub holds : n ≤ length entries → (d : Derivations f entries used stack depth places es prepared) → Holding f entries n d.kept word tree

-- the tables and the counts stand for this memory
pub record Shown (b : Bench) (l : Lent) (c : Counts) (m : Memory) : Type 0 where
  pub numbered : Numbered l.numbers c.count m.variables
  pub variables_few : c.count ≤ 256
  pub begun : Extends (first_variables (database b.file) b.asked) m.variables
  pub mandatory_known : (v : ℕ) → v ∈ mandatory (database b.file) (statement_of (database b.file) b.asked).hyps → v ∈ m.variables
  pub numbers_sized : length (database b.file).symbols ≤ length l.numbers
  pub pool : m.pool ≡ c.used
  pub pool_few : c.used ≤ b.room.pool
  pub pool_sized : b.room.pool ≤ length l.pool
  pub stack : Down (EntryShown (database b.file) m.variables l.pool c.used b.text l.stack) c.depth m.stack
  pub stack_few : c.depth ≤ b.room.stack
  pub stack_limit : b.room.stack ≤ 1024
  pub stack_sized : 10 * b.room.stack ≤ length l.stack
  pub places : Along (PlaceShown (database b.file) b.asked m.variables l.pool c.used l.places) 0 m.places
  pub placed : c.places ≡ length m.places
  pub places_few : c.places ≤ b.room.places
  pub places_limit : b.room.places ≤ 4096
  pub places_sized : 10 * b.room.places ≤ length l.places
  pub locals : m.locals ≡ locals_of b.text l.locals c.locals
  pub locals_few : c.locals ≤ c.places
  pub locals_sized : 12288 ≤ length l.locals
  pub tree_limit : length l.tree ≤ 131072
  pub nodes_few : c.nodes ≤ m.steps + m.consumed
  pub derivations : c.nodes ≤ length l.tree
      → Derivations b.file l.tree c.nodes l.stack c.depth l.places m.stack m.places

-- the outcome is the definition's: it goes on with what has the property, or refuses alike
pub data Ends (P : Counts → Memory → Type 0) : Result Memory → Outcome → Type 0 where
  goes : {c : Counts} {m : Memory} → P c m → Ends P (fine m) (Ok c)
  refuses : {why : Rattle.machine.specs.declared.Refusal.Refusal} → Ends P (stop why) (Err why)

-- the tables with these numbers and this pool; with this stack; with these places
abbrev pub with_pool : Lent → List ℕ → List ℕ → Lent
with_pool l numbers pool = record { numbers = numbers; pool = pool; stack = l.stack; places = l.places; locals = l.locals; tree = l.tree }

abbrev pub with_stack : Lent → List ℕ → Lent
with_stack l stack = record { numbers = l.numbers; pool = l.pool; stack = stack; places = l.places; locals = l.locals; tree = l.tree }

abbrev pub with_places_table : Lent → List ℕ → Lent
with_places_table l places = record { numbers = l.numbers; pool = l.pool; stack = l.stack; places = places; locals = l.locals; tree = l.tree }

-- the counts with so many variables and pool bytes
abbrev pub with_used : Counts → ℕ → ℕ → Counts
with_used c count used = record { used = used; count = count; places = c.places; locals = c.locals; depth = c.depth; nodes = c.nodes }

-- the memory with an entry over those left, after a step that consumed h hypotheses; and with one more place
abbrev pub pushed : Memory → ℕ → List Entry → Entry → Memory
pushed m h left entry =
    record {
      variables = m.variables;
      pool = m.pool;
      places = m.places;
      locals = m.locals;
      stack = entry ∷ left;
      steps = suc m.steps;
      consumed = m.consumed + h;
    }

abbrev pub placed : Memory → Prepared → Memory
placed m step =
    record {
      variables = m.variables;
      pool = m.pool;
      places = m.places ++ (step ∷ []);
      locals = m.locals;
      stack = m.stack;
      steps = m.steps;
      consumed = m.consumed;
    }

-- the counts with so many entries on the stack
abbrev pub with_depth : Counts → ℕ → Counts
with_depth c n = record { used = c.used; count = c.count; places = c.places; locals = c.locals; depth = n; nodes = c.nodes }

-- with so many places
abbrev pub with_places : Counts → ℕ → Counts
with_places c n = record { used = c.used; count = c.count; places = n; locals = c.locals; depth = c.depth; nodes = c.nodes }

-- with so many tree entries used
abbrev pub with_nodes : Counts → ℕ → Counts
with_nodes c n = record { used = c.used; count = c.count; places = c.places; locals = c.locals; depth = c.depth; nodes = n }

-- with these tree entries
abbrev pub with_tree : Lent → List ℕ → Lent
with_tree l tree = record { numbers = l.numbers; pool = l.pool; stack = l.stack; places = l.places; locals = l.locals; tree = tree }

-- a row is put over the `left` entries that stay, or there is no room
pub record Pushes (stack : List ℕ) (c : Counts) (limit left : ℕ) (row : Row) (stack' : List ℕ) (answer : Outcome) : Type 0 where
  pub answers : answer ≡ pick (at_most limit left) (Err StackFull) (Ok (with_depth c (left + 1)))
  pub holds : stack' ≡ pick (at_most limit left) stack (with_row row left stack)

-- a row takes the next place, or there is no room
pub record AddsPlace (places : List ℕ) (c : Counts) (limit : ℕ) (row : Row) (places' : List ℕ) (answer : Outcome) : Type 0 where
  pub answers : answer ≡ pick (at_most limit c.places) (Err PlacesFull) (Ok (with_places c (c.places + 1)))
  pub holds : places' ≡ pick (at_most limit c.places) places (with_row row c.places places)

-- a row without its mark
abbrev pub unmarked_row : Row → Row
unmarked_row row =
    record { head = row.head; from = row.from; to = row.to; tag = 0; end = 0; node = row.node; vars = row.vars }

-- the top of the stack is saved as the definition saves it
pub record SavesTop (stack places : List ℕ) (c : Counts) (limit : ℕ) (places' : List ℕ) (answer : Outcome) : Type 0 where
  pub follows : (b : Bench) (l : Lent) (m : Memory) → b.room.places ≡ limit → l.stack ≡ stack → l.places ≡ places → Shown b l c m
      → Ends (Shown b (with_places_table l places')) (save_top b.room m m.stack) answer
