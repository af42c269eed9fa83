-- The local label of a step: what was saved shows one label more, which has the place that the top took.
use Rattle.std.proofs.Common.{Some, None, Ok, Err}
use Prim.Native.Nat.{ℕ, ◌+◌, ◌≤◌}
use mathlib.Core.Path.{◌≡◌, refl, sym, ◌∙◌, ap}
use mathlib.Core.Bool.{Bool, true, false}
use mathlib.Core.Option.{Option}
use mathlib.Core.List.{List, [], ◌∷◌, ◌++◌}
use native.Mathlib.Omega.{arith}
use lib.ListN.{length, length-append}
use Rattle.frames.specs.Logic.{at_most}
use Rattle.frames.specs.declared.numbers.PlaceNo.{PlaceNo}
use Rattle.machine.specs.declared.Refusal.{Refusal}
use Rattle.machine.specs.declared.Refusal.TheVariants.{LocalLabelDuplicate, PlacesFull}
use Rattle.machine.specs.Chain.{fine, stop, unless}
use Rattle.machine.specs.Memory.{Room, recalls, Entry, Memory, save_top, add_place, place_of, is_some, add_local, give_local}
use Rattle.packed.specs.Pool.{range}
use Rattle.resolve.specs.Locals.{locals_of, place_found, AddsLocal, FoundPlace}
use Rattle.memory.specs.declared.Counts.{Counts}
use Rattle.memory.specs.Outcome.{Outcome}
use Rattle.memory.specs.Shown.{Bench, Lent, Shown, Ends, goes, refuses, placed, with_places_table, SavesTop}
use Rattle.memory.proofs.Ending.{ends-stop, ends-skip, ends-go, ends-refused}
use Rattle.ends.specs.Local.{LaysLocal, with_locals, labelled, SavesLabelled, with_labelled, GivesLocal}

module _ {locals : List ℕ} {c : Counts} {from to : ℕ} where
  -- there is no room for a label, or one is laid
  pub lays-none : 4096 ≤ c.locals → LaysLocal locals c from to locals
  lays-none full = record { sized = refl; lays = λ few. absurd (omega arith) }

  pub lays_one : {locals' : List ℕ} → AddsLocal locals c.locals from to c.places locals' → LaysLocal locals c from to locals'
  lays_one adds = record { sized = adds.sized; lays = λ few. adds }

-- the top was saved
pub saves-labelled : {stack places places' : List ℕ} {c : Counts} {limit : ℕ} {saved : Outcome} → SavesTop stack places c limit places' saved
    → SavesLabelled stack places c limit places' (labelled (c.locals + 1) saved)
saves-labelled {saved = saved} s = record { saved = saved; saves = s; is = refl }

-- the memory with these local labels
abbrev relabelled : Memory → List (List ℕ × ℕ) → Memory
relabelled m ls =
    record {
      variables = m.variables;
      pool = m.pool;
      places = m.places;
      locals = ls;
      stack = m.stack;
      steps = m.steps;
      consumed = m.consumed;
    }

-- saving the top does not look at the local labels
module _ (room : Room) (m : Memory) (label : List ℕ) where
  abbrev more : List (List ℕ × ℕ)
  more = m.locals ++ ((label, length m.places) ∷ [])

  saved-go : (es : List Entry) {m' : Memory} → save_top room m es ≡ fine m'
      → (save_top room (add_local m label) es ≡ fine (relabelled m' more)) × (length m'.places ≡ length m.places + 1)
  unfolding save_top add_place unless add_local
  saved-go [] e = let z : ◌≡◌ {A = ℕ} 0 1 = cc in absurd (omega arith)
  saved-go (top ∷ left) {m'} e = tried (at_most room.places (length m.places)) e
    where
      tried : (t : Bool) → unless t PlacesFull (fine (placed m (recalls top.proved))) ≡ fine m'
          → (unless t PlacesFull (fine (placed (add_local m label) (recalls top.proved))) ≡ fine (relabelled m' more)) × (length m'.places ≡ length m.places + 1)
      tried true e = let z : ◌≡◌ {A = ℕ} 0 1 = cc in absurd (omega arith)
      tried false e =
          let same : placed m (recalls top.proved) ≡ m' = cc in
          rw (← same) (refl, length-append m.places (recalls top.proved ∷ []))

  saved-stop : (es : List Entry) {why : Refusal} → save_top room m es ≡ stop why → save_top room (add_local m label) es ≡ stop why
  unfolding save_top add_place unless add_local
  saved-stop [] e = e
  saved-stop (top ∷ left) {why} e = tried (at_most room.places (length m.places)) e
    where
      tried : (t : Bool) → unless t PlacesFull (fine (placed m (recalls top.proved))) ≡ stop why
          → unless t PlacesFull (fine (placed (add_local m label) (recalls top.proved))) ≡ stop why
      tried true e = cc
      tried false e = let z : ◌≡◌ {A = ℕ} 0 1 = cc in absurd (omega arith)

-- what was saved, shown with one more local label
shown-labelled : {b : Bench} {l : Lent} {c c' : Counts} {m m' : Memory} {locals' places' : List ℕ} (from to : ℕ) (label : List ℕ)
    → label ≡ range from to b.text → Shown b l c m → Shown b (with_places_table l places') c' m' → length m'.places ≡ length m.places + 1 → AddsLocal l.locals c.locals from to c.places locals'
    → Shown b (with_labelled l locals' places') (with_locals c' (c.locals + 1)) (relabelled m' (m.locals ++ ((label, length m.places) ∷ [])))
shown-labelled {b} {l} {c} {c'} {m} {m'} from to label is s t one adds =
    record {
      numbered = t.numbered;
      variables_few = t.variables_few;
      begun = t.begun;
      mandatory_known = t.mandatory_known;
      numbers_sized = t.numbers_sized;
      pool = t.pool;
      pool_few = t.pool_few;
      pool_sized = t.pool_sized;
      stack = t.stack;
      stack_few = t.stack_few;
      stack_limit = t.stack_limit;
      stack_sized = t.stack_sized;
      places = t.places;
      placed = t.placed;
      places_few = t.places_few;
      places_limit = t.places_limit;
      places_sized = t.places_sized;
      locals = rw (s.locals, ← s.placed, is) (sym (adds.adds b.text));
      locals_few = let few = s.locals_few in let before = s.placed in let after = t.placed in omega arith;
      locals_sized = let sized = s.locals_sized in let same = adds.sized in omega arith;
      tree_limit = t.tree_limit;
      nodes_few = t.nodes_few;
      derivations = t.derivations;
    }

-- what is found among the labels of the memory
found-there : {b : Bench} {l : Lent} {c : Counts} {m : Memory} {locals : List ℕ} {found : Option ℕ} (label : List ℕ) {text : List ℕ} → Shown b l c m → b.text ≡ text
    → l.locals ≡ locals → place_of label (locals_of text locals c.locals) ≡ found → place_of label m.locals ≡ found
found-there label s text_is locals_is finds = rw (s.locals, text_is, locals_is) finds

module _ {text stack locals places : List ℕ} {from to : ℕ} {c : Counts} {limit : ℕ} {found : FoundPlace}
    (finds : place_of (range from to text) (locals_of text locals c.locals) ≡ place_found found) where
  -- there is one of the same bytes
  pub gives-duplicate : {k : PlaceNo} → found ≡ Some k → GivesLocal text from to stack locals places c limit locals places (Err LocalLabelDuplicate)
  unfolding give_local place_found is_some
  gives-duplicate is =
      record { follows = λ b l m text_is limit_is stack_is locals_is places_is s. ends-stop _ (ap is_some (found-there (range from to text) s text_is locals_is finds ∙ ap place_found is)) }

  -- there is none: the top takes its place
  pub gives-new : {locals' places' : List ℕ} {answer : Outcome} → found ≡ None → LaysLocal locals c from to locals'
      → SavesLabelled stack places c limit places' answer → GivesLocal text from to stack locals places c limit locals' places' answer
  unfolding give_local place_found is_some labelled
  gives-new {locals'} {places'} {answer} is lays saves =
      record {
        follows = λ b l m text_is limit_is stack_is locals_is places_is s.
            ends-skip LocalLabelDuplicate (ap is_some (found-there (range from to text) s text_is locals_is finds ∙ ap place_found is))
            (by-saved b l m text_is locals_is s saves.saved saves.is (saves.saves.follows b l m limit_is stack_is places_is s));
      }
    where
      by-saved : (b : Bench) (l : Lent) (m : Memory) → b.text ≡ text → l.locals ≡ locals → Shown b l c m → (o : Outcome) → answer ≡ labelled (c.locals + 1) o
          → Ends (Shown b (with_places_table l places')) (save_top b.room m m.stack) o
          → Ends (Shown b (with_labelled l locals' places')) (save_top b.room (add_local m (range from to text)) m.stack) answer
      by-saved b l m text_is locals_is s (Ok c') e ends =
          let go = ends-go ends in
          let saved = saved-go b.room m (range from to text) m.stack go.1 in
          let one = saved.1 in
          let few = s.locals_few in
          let before = s.placed in
          let after = go.2.placed in
          let room = go.2.places_few in
          let limit = go.2.places_limit in
          let shown = shown-labelled {locals' = locals'} from to (range from to text) (ap (range from to) (sym text_is)) s go.2 one (rw locals_is (lays.lays (omega arith))) in
          rw (e, saved.0) (goes shown)
      by-saved b l m text_is locals_is s (Err why) e ends =
          rw (e, saved-stop b.room m (range from to text) m.stack (ends-refused ends)) refuses
