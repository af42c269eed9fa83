-- What a run holds: the variables numbered so far, the pool bytes used, places, local labels, the stack, and its counts. Every expression
-- on the stack or in a place has beside it the tree of its derivation.
use Rattle.std.specs.Prelude.{ℕ, suc, ◌+◌, min, Bool, true, false, List, [], ◌∷◌, ◌++◌, length}
use Rattle.std.proofs.Math.Option.{Option, none, some}
use Rattle.book.specs.Book.{Expression, Tree}
use Rattle.frames.specs.Logic.{at_most, pick, same}
use Rattle.frames.specs.Database.{Database}
use Rattle.frames.specs.Facts.{symbol_of}
use Rattle.machine.specs.Chain.{Result, fine, stop, unless}
use Rattle.machine.specs.declared.Refusal.TheVariants.{ProofInvalidSave, LocalLabelDuplicate, StackFull, PlacesFull}

-- the room that is lent: pool bytes, stack entries, places
pub record Room : Type 0 where
  pub pool : ℕ
  pub stack : ℕ
  pub places : ℕ

-- at most 65,536, 1,024 and 4,096 of it are used
unfoldable pub limited : Room → Room
limited room =
    record { pool = min room.pool 65536; stack = min room.stack 1024; places = min room.places 4096 }

-- an expression and the tree of its derivation
pub record Proved : Type 0 where
  pub expression : Expression
  pub tree : Tree

-- what a place holds: what a step recalls, or the assertion that a step applies, by its statement number
pub data Prepared : Type 0 where
  recalls : Proved → Prepared
  applies : ℕ → Prepared

-- a stack entry: what is proved, and its mark or none
pub record Entry : Type 0 where
  pub proved : Proved
  pub mark : Option (List ℕ)

-- the stack has its top first; a local label has the number of its place; `consumed` counts the hypotheses of all assertions applied
pub record Memory : Type 0 where
  pub variables : List ℕ
  pub pool : ℕ
  pub places : List Prepared
  pub locals : List (List ℕ × ℕ)
  pub stack : List Entry
  pub steps : ℕ
  pub consumed : ℕ

-- the pool bytes of a sequence of symbols: the bytes of their names
unfoldable pub cost : Database → List ℕ → ℕ
cost db [] = 0
cost db (s ∷ ss) = length (symbol_of db s).name + cost db ss

-- a new entry over what is left of the stack, after a step that consumed h hypotheses: 45 where there is no room; then the step counts
unfoldable pub push : Room → Memory → ℕ → List Entry → Entry → Result Memory
push room m h left entry =
    unless (at_most room.stack (length left)) StackFull
    (fine (record {
      variables = m.variables;
      pool = m.pool;
      places = m.places;
      locals = m.locals;
      stack = entry ∷ left;
      steps = suc m.steps;
      consumed = m.consumed + h;
    }))

-- one more place: 46 where there is no room
unfoldable pub add_place : Room → Memory → Prepared → Result Memory
add_place room m step =
    unless (at_most room.places (length m.places)) PlacesFull
    (fine (record {
      variables = m.variables;
      pool = m.pool;
      places = m.places ++ (step ∷ []);
      locals = m.locals;
      stack = m.stack;
      steps = m.steps;
      consumed = m.consumed;
    }))

-- the top takes a place, without its mark (after a step there is a top)
unfoldable pub save_top : Room → Memory → List Entry → Result Memory
save_top room m [] = stop ProofInvalidSave
save_top room m (top ∷ left) = add_place room m (recalls top.proved)

-- the place of a local label
unfoldable pub place_of : List ℕ → List (List ℕ × ℕ) → Option ℕ
place_of label [] = none
place_of label (l ∷ ls) = pick (same l.0 label) (some l.1) (place_of label ls)

unfoldable pub is_some : {A : Type 0} → Option A → Bool
is_some none = false
is_some (some x) = true

-- the memory with one more local label, which has the next place to be taken
unfoldable pub add_local : Memory → List ℕ → Memory
add_local m label =
    record {
      variables = m.variables;
      pool = m.pool;
      places = m.places;
      locals = m.locals ++ ((label, length m.places) ∷ []);
      stack = m.stack;
      steps = m.steps;
      consumed = m.consumed;
    }

-- after a step: a local label that is there already is 27; else the step's result takes a place
unfoldable pub give_local : Room → Memory → Option (List ℕ) → Result Memory
give_local room m none = fine m
give_local room m (some label) =
    unless (is_some (place_of label m.locals)) LocalLabelDuplicate
    (save_top room (add_local m label) m.stack)
