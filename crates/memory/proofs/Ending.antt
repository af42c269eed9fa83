-- Outcomes against the definition's results: refusals, and a row more on the stack or among the places.
use Rattle.std.proofs.Common.{Ok, Err}
use Prim.Native.Nat.{ℕ, ◌≤◌, ◌<◌}
use mathlib.Core.Path.{◌≡◌, refl, sym, ◌∙◌, ap}
use mathlib.Core.Bool.{Bool, true, false}
use mathlib.Core.List.{List}
use native.Mathlib.Omega.{arith}
use lib.ListN.{length}
use Rattle.frames.specs.Logic.{at_most, pick}
use Rattle.frames.specs.Database.{database}
use Rattle.frames.proofs.Chains.{at_most-false}
use Rattle.machine.specs.declared.Refusal.{Refusal}
use Rattle.machine.specs.declared.Refusal.TheVariants.{StackFull, PlacesFull}
use Rattle.machine.specs.Chain.{Result, fine, stop, unless}
use Rattle.machine.specs.Memory.{Prepared, Entry, Memory, push, add_place}
use Rattle.tree.specs.Recorded.{Applications, Denotes}
use Rattle.memory.specs.declared.table.Row.{Row}
use Rattle.memory.specs.declared.Counts.{Counts}
use Rattle.memory.specs.Outcome.{Outcome}
use Rattle.memory.specs.Table.{with_row}
use Rattle.memory.specs.Shown.{Bench, Lent, Down, Means, mark_of, EntryShown, PlaceShown, NodeShown, NodePlaced, Derivations, Records, Shown, Ends, goes, refuses, with_nodes, with_stack, with_places_table, Pushes, AddsPlace}
use Rattle.memory.proofs.Showing.{down-length, shown-pushed, shown-placed}

module _ {P : Counts → Memory → Type 0} where
  -- the same results, the same outcomes
  pub ends_by : {r r' : Result Memory} {o o' : Outcome} → r ≡ r' → o ≡ o' → Ends P r' o' → Ends P r o
  ends_by e f x = rw (e, f) x

  -- a test that holds refuses; one that does not is passed
  pub ends-stop : {t : Bool} {why : Refusal} (rest : Result Memory) → t ≡ true → Ends P (unless t why rest) (Err why)
  unfolding unless
  ends-stop rest e = rw e refuses

  pub ends-skip : {t : Bool} {rest : Result Memory} {o : Outcome} (why : Refusal) → t ≡ false → Ends P rest o → Ends P (unless t why rest) o
  unfolding unless
  ends-skip why e x = rw e x

  -- what a run that goes on has
  pub ends-go : {r : Result Memory} {c : Counts} → Ends P r (Ok c) → (m : Memory) × (r ≡ fine m) × P c m
  ends-go (goes {m = m} p) = (m, refl, p)

  pub ends-refused : {r : Result Memory} {why : Refusal} → Ends P r (Err why) → r ≡ stop why
  ends-refused refuses = refl

module _ {b : Bench} {l : Lent} {c : Counts} {m : Memory} (s : Shown b l c m) where
  -- a row over the first k entries, or 45
  pub push-ends : (k h n : ℕ) (row : Row) {left : List Entry} (entry : Entry) {stack' : List ℕ} {answer : Outcome}
      → Pushes l.stack (with_nodes c n) b.room.stack k row stack' answer → k ≤ c.depth
      → Down (EntryShown (database b.file) m.variables l.pool c.used b.text l.stack) k left
      → ((kept : Applications) → Down (NodeShown b.file kept l.stack) c.depth m.stack → Down (NodeShown b.file kept l.stack) k left)
      → length row.vars.words ≡ 4
      → Means (database b.file) m.variables l.pool c.used row entry.proved.expression → mark_of b.text row.tag row.end ≡ entry.mark
      → Records b.file l.tree c.nodes l.stack c.depth l.places m.stack m.places n h row.node entry.proved.tree
      → Ends (Shown b (with_stack l stack')) (push b.room m h left entry) answer
  unfolding push pick
  push-ends k h n row {left} entry {stack'} {answer} pushes below there there-too four means mark records = tried (at_most b.room.stack k) refl
    where
      tried : (t : Bool) → at_most b.room.stack k ≡ t → Ends (Shown b (with_stack l stack')) (push b.room m h left entry) answer
      tried true e =
          rw (pushes.answers, e) (ends-stop _ (ap (at_most b.room.stack) (down-length there) ∙ e))
      tried false e =
          rw (pushes.answers, pushes.holds, e)
          (ends-skip StackFull (ap (at_most b.room.stack) (down-length there) ∙ e)
          (goes (shown-pushed s k h n row entry below (at_most-false _ _ e) there there-too four means mark records)))

  -- nothing is recorded: this word has a derivation already, or is that of a hypothesis
  pub records-none : (h word : ℕ) (tree : Rattle.book.specs.Book.Tree)
      → ((d : Derivations b.file l.tree c.nodes l.stack c.depth l.places m.stack m.places) → Denotes b.file d.kept word tree)
      → Records b.file l.tree c.nodes l.stack c.depth l.places m.stack m.places c.nodes h word tree
  records-none h word tree denotes =
      record {
        few = omega arith;
        sooner = λ enough. enough;
        holds = λ enough d. record { now = d.kept; within = λ from t i. i; recorded = d.recorded; denotes = denotes d };
      }

  -- one more place, or 46
  pub place-ends : (row : Row) (step : Prepared) {places' : List ℕ} {answer : Outcome} → AddsPlace l.places c b.room.places row places' answer
      → (c.places < b.room.places
      → PlaceShown (database b.file) b.asked m.variables l.pool c.used (with_row row c.places l.places) c.places step)
      → (c.places < b.room.places → (d : Derivations b.file l.tree c.nodes l.stack c.depth l.places m.stack m.places)
      → NodePlaced b.file d.kept (with_row row c.places l.places) c.places step)
      → Ends (Shown b (with_places_table l places')) (add_place b.room m step) answer
  unfolding add_place pick
  place-ends row step {places'} {answer} adds shows node-shows = tried (at_most b.room.places c.places) refl
    where
      tried : (t : Bool) → at_most b.room.places c.places ≡ t → Ends (Shown b (with_places_table l places')) (add_place b.room m step) answer
      tried true e =
          rw (adds.answers, e) (ends-stop _ (ap (at_most b.room.places) (sym s.placed) ∙ e))
      tried false e =
          rw (adds.answers, adds.holds, e)
          (ends-skip PlacesFull (ap (at_most b.room.places) (sym s.placed) ∙ e)
          (goes (shown-placed s row step (at_most-false _ _ e) (shows (at_most-false _ _ e)) (node-shows (at_most-false _ _ e)))))
