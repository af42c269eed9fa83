-- The top of the stack saved as a place.
use Rattle.std.proofs.Common.{Err}
use Prim.Native.Nat.{ℕ, ◌-◌, ◌*◌, ◌≤◌}
use mathlib.Core.Path.{◌≡◌, refl, sym}
use mathlib.Core.List.{List, ◌∷◌}
use native.Mathlib.Omega.{arith}
use lib.ListN.{length}
use Rattle.frames.specs.Database.{database}
use Rattle.machine.specs.declared.Refusal.TheVariants.{ProofInvalidSave}
use Rattle.machine.specs.Memory.{recalls, Entry, Memory, save_top, add_place}
use Rattle.tree.specs.Recorded.{Applications, Denotes}
use Rattle.memory.specs.declared.table.Row.{Row}
use Rattle.memory.specs.declared.Counts.{Counts}
use Rattle.memory.specs.Outcome.{Outcome}
use Rattle.memory.specs.Table.{RowAt}
use Rattle.memory.specs.Shown.{Bench, Lent, Down, bottom, over, Means, EntryShown, recalled, NodeShown, Shown, Ends, refuses, with_places_table, unmarked_row, AddsPlace, SavesTop}
use Rattle.memory.proofs.Tables.{row_new, row_one, row-four}
use Rattle.memory.proofs.Ending.{place-ends}

-- a row without its mark stands for the same expression
unmarked-means : {db : Rattle.frames.specs.Database.Database} {vs pool : List ℕ} {used : ℕ} {row : Row} {e : Rattle.book.specs.Book.Expression}
    → Means db vs pool used row e → Means db vs pool used (unmarked_row row) e
unmarked-means m =
    record { typecode = m.typecode; rises = m.rises; within = m.within; symbols = m.symbols; defined = m.defined; known = m.known; numbers = m.numbers }

module _ {stack places : List ℕ} (c : Counts) {limit : ℕ} where
  pub saves-none : c.depth ≡ 0 → SavesTop stack places c limit places (Err ProofInvalidSave)
  unfolding save_top
  saves-none nothing = record { follows = λ b l m e f g s. empty b l m nothing s.stack }
    where
      empty : (b : Bench) (l : Lent) (m : Memory) {n : ℕ} {es : List Entry} → n ≡ 0
          → Down (EntryShown (database b.file) m.variables l.pool c.used b.text l.stack) n es
          → Ends (Shown b (with_places_table l places)) (save_top b.room m es) (Err ProofInvalidSave)
      empty b l m e bottom = refuses
      empty b l m e (over f p d) = absurd (omega arith)

  pub saves-top : {row : Row} {places' : List ℕ} {answer : Outcome} → 1 ≤ c.depth → RowAt stack (c.depth - 1) row
      → 10 * limit ≤ length places → AddsPlace places c limit (unmarked_row row) places' answer → SavesTop stack places c limit places' answer
  unfolding save_top
  saves-top {row} {places'} {answer} some at sized adds =
      record { follows = λ b l m e f g s. top b l m e f g s refl refl s.stack }
    where
      top_of : {f : List ℕ} {kept : Applications} (l : Lent) → l.stack ≡ stack → (e : Entry) {left : List Entry} {n : ℕ} → n ≡ c.depth → Down (NodeShown f kept l.stack) n (e ∷ left)
          → Denotes f kept row.node e.proved.tree
      top_of l stack_is e same (over {k} f p d) =
          let below : k ≡ c.depth - 1 = omega arith in
          let one : p.row ≡ row = row_one (rw below at p.at) (rw stack_is at) in
          rw (sym one) p.denotes

      top-node : {f : List ℕ} {kept : Applications} (l : Lent) → l.stack ≡ stack → (e : Entry) {left es : List Entry} → es ≡ e ∷ left → Down (NodeShown f kept l.stack) c.depth es
          → Denotes f kept row.node e.proved.tree
      top-node l stack_is e is d = top_of l stack_is e refl (rw is at d)

      there : (b : Bench) (l : Lent) (m : Memory) → b.room.places ≡ limit → l.stack ≡ stack → l.places ≡ places → Shown b l c m → (e : Entry) {left : List Entry}
          → m.stack ≡ e ∷ left → EntryShown (database b.file) m.variables l.pool c.used b.text l.stack (c.depth - 1) e
          → Ends (Shown b (with_places_table l places')) (add_place b.room m (recalls e.proved)) answer
      there b l m limit_is stack_is places_is s e is p =
          let one : p.row ≡ row = row_one p.at (rw stack_is at) in
          let means = unmarked-means (rw one at p.means) in
          place-ends s (unmarked_row row) (recalls e.proved) (rw (limit_is, places_is) adds)
          (λ room. recalled (unmarked_row row) (row_new (unmarked_row row) c.places l.places (rw places_is (omega arith)) (row-four at)) refl means)
          (λ room d. recalled (unmarked_row row) (row_new (unmarked_row row) c.places l.places (rw places_is (omega arith)) (row-four at)) (top-node l stack_is e is d.on_stack))

      top : (b : Bench) (l : Lent) (m : Memory) → b.room.places ≡ limit → l.stack ≡ stack → l.places ≡ places → Shown b l c m → {n : ℕ} {es : List Entry} → n ≡ c.depth → m.stack ≡ es
          → Down (EntryShown (database b.file) m.variables l.pool c.used b.text l.stack) n es
          → Ends (Shown b (with_places_table l places')) (save_top b.room m es) answer
      top b l m limit_is stack_is places_is s e is bottom = absurd (omega arith)
      top b l m limit_is stack_is places_is s e is (over {k} f p d) =
          let same : k ≡ c.depth - 1 = omega arith in
          there b l m limit_is stack_is places_is s _ is (rw same at p)
