-- The step at a place: there is none (31), it recalls, or it applies an assertion.
use Rattle.std.proofs.Common.{Err}
use Prim.Native.Nat.{ℕ, ◌*◌, zero, suc, ◌+◌, ◌≤◌, ◌<◌}
use mathlib.Core.Path.{◌≡◌, refl, sym, ◌∙◌, ap}
use mathlib.Core.List.{List, [], ◌∷◌, cons-ne-nil}
use native.Mathlib.Omega.{arith}
use lib.ListN.{length, get_or, drop}
use Rattle.book.specs.Book.{Expression}
use Rattle.frames.specs.Database.{Database, database}
use Rattle.machine.specs.declared.Refusal.TheVariants.{StepOutOfRange}
use Rattle.machine.specs.Chain.{fine, stop, bind}
use Rattle.machine.specs.Memory.{Proved, Prepared, recalls, applies, Memory}
use Rattle.machine.specs.Prepare.{ready, at_place, ready_with, prepare_place}
use Rattle.machine.specs.Apply.{run_prepared, run_ready}
use Rattle.resolve.specs.Filed.{Filed}
use Rattle.memory.specs.declared.table.Row.{Row}
use Rattle.memory.specs.declared.Counts.{Counts}
use Rattle.memory.specs.declared.Limits.{Limits}
use Rattle.memory.specs.Outcome.{Outcome}
use Rattle.memory.specs.Table.{RowAt}
use Rattle.memory.specs.Shown.{Bench, Lent, room_of, bench, lent, mark_of, Along, Means, PlaceShown, recalled, applied, NodePlaced, Shown, Ends, refuses, Pushes}
use Rattle.memory.proofs.Tables.{row_one, row-four}
use Rattle.memory.proofs.Stored.{push-used}
use Rattle.tree.specs.Recorded.{Applications, Denotes}
use Rattle.memory.proofs.Ending.{push-ends, records-none}
use Rattle.apply.specs.Hyps.{Ranged}
use Rattle.apply.specs.Step.{Under, Executes}
use Rattle.apply.proofs.Processing.{At, along-at}
use Rattle.engine.specs.Place.{marked_row, RunsPlace}

-- what stands at a place
place-there : (k : ℕ) (ps : List Prepared) {x : Prepared} {ys : List Prepared} → drop k ps ≡ x ∷ ys → at_place ps k ≡ fine x
unfolding at_place
place-there zero [] e = absurd (cons-ne-nil _ _ (sym e))
place-there zero (p ∷ ps) {x} e = ap fine (ap (λ (l : List Prepared). get_or l 0 p) e)
place-there (suc k) [] e = absurd (cons-ne-nil _ _ (sym e))
place-there (suc k) (p ∷ ps) e = place-there k ps e

place_none : (k : ℕ) (ps : List Prepared) → length ps ≤ k → at_place ps k ≡ stop StepOutOfRange
unfolding at_place
place_none k [] l = refl
place_none zero (p ∷ ps) l = absurd (omega arith)
place_none (suc k) (p ∷ ps) l = place_none k ps (omega arith)

-- what stands at a place that is taken
module _ {b : Bench} {l : Lent} {c : Counts} {m : Memory} (k : ℕ) (few : k < c.places) (s : Shown b l c m) where
  held : At (PlaceShown (database b.file) b.asked m.variables l.pool c.used l.places) 0 m.places k
  held = along-at k (let e = s.placed in omega arith) s.places

  shown : PlaceShown (database b.file) b.asked m.variables l.pool c.used l.places k held.it
  shown = let e : 0 + k ≡ k = omega arith in rw e at held.shown

  found : at_place m.places k ≡ fine held.it
  found = place-there k m.places held.here

-- the derivation of what a place recalls
node-recalled : {f : List ℕ} {kept : Applications} {places : List ℕ} {k : ℕ} {row : Row} {x : Proved} → RowAt places k row → NodePlaced f kept places k (recalls x)
    → Denotes f kept row.node x.tree
node-recalled at (recalled q there d) = rw (row_one at there) d

node-there : {f : List ℕ} {kept : Applications} {places : List ℕ} {ps : List Prepared} {k : ℕ} {row : Row} (x : Proved) {ys : List Prepared} → k < length ps → RowAt places k row
    → drop k ps ≡ recalls x ∷ ys → Along (NodePlaced f kept places) 0 ps → Denotes f kept row.node x.tree
node-there {k = k} x few at here a =
    let r = along-at k few a in
    let same : r.it ≡ recalls x = ap (λ (l : List Prepared). get_or l 0 (recalls x)) (sym r.here ∙ here) in
    let zero-k : 0 + k ≡ k = omega arith in
    node-recalled at (rw (zero-k, same) at r.shown)

marked-means : {db : Database} {vs pool : List ℕ} {used : ℕ} {row : Row} {e : Expression} (tag end : ℕ) → Means db vs pool used row e → Means db vs pool used (marked_row row tag end) e
marked-means tag end m =
    record { typecode = m.typecode; rises = m.rises; within = m.within; symbols = m.symbols; defined = m.defined; known = m.known; numbers = m.numbers }

module _ {f syms stmts text table froms tos sets pool stack tree places : List ℕ} {k : ℕ} {c : Counts} {limits : Limits} {tag end : ℕ} where
  pub runs-out : Ranged froms tos c.used → c.places ≤ k
      → RunsPlace f syms stmts text table froms tos sets pool stack tree places k c limits tag end froms tos sets pool stack tree (Err StepOutOfRange)
  unfolding bind prepare_place
  runs-out r past =
      record {
        ranged = r;
        froms_sized = refl;
        tos_sized = refl;
        sets_sized = refl;
        tree_sized = refl;
        grows = λ c' e. let z : ◌≡◌ {A = ℕ} 0 1 = cc in absurd (omega arith);
        follows = λ p numbers locals m filed asked under x y z s.
            rw (place_none k m.places (let e = s.placed in omega arith)) refuses;
      }

  module _ {row : Row} (few : k < c.places) (at : RowAt places k row) where
    -- it recalls
    pub runs-recalled : {stack' : List ℕ} {answer : Outcome} → row.tag ≡ 0 → Ranged froms tos c.used → Pushes stack c limits.stack c.depth (marked_row row tag end) stack' answer
        → RunsPlace f syms stmts text table froms tos sets pool stack tree places k c limits tag end froms tos sets pool stack' tree answer
    unfolding bind prepare_place ready_with ready run_ready run_prepared
    runs-recalled {stack'} {answer} plain r pushes =
        record {
          ranged = r;
          froms_sized = refl;
          tos_sized = refl;
          sets_sized = refl;
          tree_sized = refl;
          grows = λ c' e. let u = push-used pushes e in omega arith;
          follows = λ p numbers locals m filed asked under x y z s.
              rw (found k few s) (pushed-on p numbers locals m s (held k few s).it (held k few s).here (shown k few s));
        }
      where
        pushed-on : (p : ℕ) (numbers locals : List ℕ) (m : Memory) → Shown (bench f syms stmts p limits text) (lent numbers pool stack places locals tree) c m → (step : Prepared) {ys : List Prepared}
            → drop k m.places ≡ step ∷ ys → PlaceShown (database f) p m.variables pool c.used places k step
            → Ends (Shown (bench f syms stmts p limits text) (lent numbers pool stack' places locals tree)) (run_prepared (database f) p (room_of limits) m (mark_of text tag end) step) answer
        pushed-on p numbers locals m s (recalls x) here (recalled q there t means) =
            let one : row ≡ q = row_one at there in
            push-ends s c.depth 0 c.nodes (marked_row row tag end) (record { proved = x; mark = mark_of text tag end }) pushes (omega arith) s.stack (λ kept d. d) (row-four at)
            (marked-means {row = row} tag end (rw one means)) refl
            (records-none s 0 row.node x.tree (λ d. node-there x (let e = s.placed in omega arith) at here d.in_places))
        pushed-on p numbers locals m s (applies a) here (applied q there t is before kind) =
            let z : ◌≡◌ {A = ℕ} 0 1 = sym plain ∙ (ap (λ (r : Row). r.tag) (row_one at there) ∙ t) in
            absurd (omega arith)

    -- it applies an assertion
    pub runs-applied : {froms' tos' sets' pool' stack' tree' : List ℕ} {answer : Outcome} → (row.tag ≡ 0 → ⊥)
        → Executes f syms stmts row.head text table froms tos sets pool stack tree c limits tag end froms' tos' sets' pool' stack' tree' answer
        → RunsPlace f syms stmts text table froms tos sets pool stack tree places k c limits tag end froms' tos' sets' pool' stack' tree' answer
    unfolding bind prepare_place ready_with ready run_ready
    runs-applied {pool' = pool'} {stack'} {tree'} {answer} tagged runs =
        record {
          ranged = runs.ranged;
          froms_sized = runs.froms_sized;
          tos_sized = runs.tos_sized;
          sets_sized = runs.sets_sized;
          tree_sized = runs.tree_sized;
          grows = runs.grows;
          follows = λ p numbers locals m filed asked under x y z s.
              rw (found k few s) (applied-on p numbers locals m filed asked under x y z s (held k few s).it (shown k few s));
        }
      where
        applied-on : (p : ℕ) (numbers locals : List ℕ) (m : Memory) → Filed f syms stmts → p < length (database f).statements → Under f p table
            → length (database f).symbols ≤ length froms → length (database f).symbols ≤ length tos → 4 * length (database f).symbols ≤ length sets
            → Shown (bench f syms stmts p limits text) (lent numbers pool stack places locals tree) c m → (step : Prepared)
            → PlaceShown (database f) p m.variables pool c.used places k step
            → Ends (Shown (bench f syms stmts p limits text) (lent numbers pool' stack' places locals tree')) (run_prepared (database f) p (room_of limits) m (mark_of text tag end) step) answer
        applied-on p numbers locals m filed asked under x y z s (recalls _) (recalled q there t means) = absurd (tagged (ap (λ (r : Row). r.tag) (row_one at there) ∙ t))
        applied-on p numbers locals m filed asked under x y z s (applies a) (applied q there t is before kind) =
            let same : row.head ≡ a = ap (λ (r : Row). r.head) (row_one at there) ∙ is in
            rw same at
            (runs.follows p numbers places locals m filed asked (rw same (record { earlier = before; kind = kind })) under x y z s)
