-- What the tables show stays shown when more is used of them.
use Prim.Native.Nat.{ℕ, zero, suc, ◌+◌, ◌-◌, ◌*◌, ◌≤◌, ◌<◌}
use mathlib.Core.Path.{◌≡◌, refl, sym, ◌∙◌, ap}
use mathlib.Core.List.Memᴰ
use mathlib.Core.List.{List, [], ◌∷◌, ◌++◌, reverse, reverse_aux, append_assoc}
use native.Mathlib.Omega.{arith}
use lib.ListN.{length, take, drop, length-append, take-append-drop}
use lib.Seq.{length-take-le}
use Rattle.book.specs.Book.{Expression}
use Rattle.frames.specs.Database.{Database, database}
use Rattle.machine.specs.Memory.{Prepared, Entry, Memory}
use Rattle.machine.specs.Prepare.{spend}
use Rattle.machine.specs.Run.{first_variables}
use Rattle.tree.specs.Recorded.{Applications, Within, SameUpTo}
use Rattle.tree.proofs.Recording.{denotes-more, recorded-kept}
use Rattle.packed.specs.Pool.{range}
use Rattle.packed.proofs.Written.{range_front}
use Rattle.packed.proofs.Numbering.{numbers-grown}
use Rattle.variables.specs.Numbering.{Numbered}
use Rattle.memory.specs.declared.table.Row.{Row}
use Rattle.memory.specs.declared.Counts.{Counts}
use Rattle.memory.specs.Table.{with_row}
use Rattle.memory.specs.Shown.{Bench, Lent, Down, bottom, over, Along, ends, next, Means, mark_of, EntryShown, PlaceShown, recalled, applied, NodeShown, NodePlaced, Derivations, Holding, Records, Shown, with_pool, with_stack, with_places_table, with_used, with_depth, with_places, with_nodes, with_tree, pushed, placed}
use Rattle.memory.proofs.Tables.{with-row-length, row_new, row_kept}

-- a range of the used part is the same in two pools whose used parts are the same
pub range-kept : (pool pool' : List ℕ) (used from to : ℕ) → take used pool' ≡ take used pool → used ≤ length pool → used ≤ length pool' → from ≤ to → to ≤ used
    → range from to pool' ≡ range from to pool
range-kept pool pool' used from to kept sized sized' rises within =
    fronted pool' sized' ∙ ap (λ (xs : List ℕ). range from to xs) kept ∙ sym (fronted pool sized)
  where
    fronted : (xs : List ℕ) → used ≤ length xs → range from to xs ≡ range from to (take used xs)
    fronted xs l =
        ap (λ (ys : List ℕ). range from to ys) (sym (take-append-drop used xs))
        ∙ range_front from to (take used xs) (drop used xs) rises (rw length-take-le within)

-- the members of a list in order stay shown
pub down-map : {A : Type 0} {P Q : ℕ → A → Type 0} {n : ℕ} {xs : List A} → ((k : ℕ) (x : A) → k < n → P k x → Q k x) → Down P n xs → Down Q n xs
down-map f bottom = bottom
down-map {n = n} f (over {k} e p d) = over e (f k _ (omega arith) p) (down-map (λ j x l q. f j x (omega arith) q) d)

pub along-map : {A : Type 0} {P Q : ℕ → A → Type 0} {k : ℕ} {xs : List A} (n : ℕ) → k + length xs ≤ n → ((j : ℕ) (x : A) → j < n → P j x → Q j x) → Along P k xs
    → Along Q k xs
along-map n l f ends = ends
along-map {k = k} n l f (next e p a) = next e (f k _ (omega arith) p) (along-map n (omega arith) f a)

-- one more at the end
pub along-more : {A : Type 0} {P : ℕ → A → Type 0} {k : ℕ} {xs : List A} {x : A} (n : ℕ) → n ≡ k + length xs → Along P k xs → P n x
    → Along P k (xs ++ (x ∷ []))
along-more {k = k} n e ends p = let same : n ≡ k = omega arith in next refl (rw same at p) ends
along-more n e (next f q a) p = next f q (along-more n (omega arith) a p)

-- there are as many as the top says
pub down-length : {A : Type 0} {P : ℕ → A → Type 0} {n : ℕ} {xs : List A} → Down P n xs → length xs ≡ n
down-length bottom = refl
down-length (over f p d) = let e = down-length d in omega arith

-- those below the top h stay where they are
pub down-drop : {A : Type 0} {P : ℕ → A → Type 0} {n : ℕ} {xs : List A} (h k : ℕ) → n ≡ k + h → Down P n xs → Down P k (drop h xs)
down-drop {n = n} zero k e d = let same : n ≡ k = omega arith in rw same at d
down-drop (suc h) k e bottom = absurd (omega arith)
down-drop (suc h) k e (over f p d) = down-drop h k (omega arith) d

-- the top h, from the bottom up
turned : {A : Type 0} {P : ℕ → A → Type 0} {n : ℕ} {xs ys : List A} (h k : ℕ) → n ≡ k + h → Down P n xs → Along P n ys → Along P k (reverse_aux (take h xs) ys)
turned {n = n} zero k e d a = let same : n ≡ k = omega arith in rw same at a
turned (suc h) k e bottom a = absurd (omega arith)
turned (suc h) k e (over f p d) a = turned h k (omega arith) d (next f p a)

pub down-take : {A : Type 0} {P : ℕ → A → Type 0} {n : ℕ} {xs : List A} (h k : ℕ) → n ≡ k + h → Down P n xs → Along P k (reverse (take h xs))
down-take h k e d = turned h k e d ends

module _ {db : Database} {vs pool : List ℕ} {used : ℕ} {row : Row} {e : Expression} where
  -- a row means what it meant when the used part of the pool has grown and more variables are numbered
  pub means-kept : (ws pool' : List ℕ) (used' : ℕ) → take used pool' ≡ take used pool → used ≤ length pool → used ≤ length pool' → used ≤ used'
      → Means db vs pool used row e → Means db (vs ++ ws) pool' used' row e
  means-kept ws pool' used' kept sized sized' grows m =
      record {
        typecode = m.typecode;
        rises = m.rises;
        within = let w = m.within in omega arith;
        symbols = range-kept pool pool' used row.from row.to kept sized sized' m.rises m.within ∙ m.symbols;
        defined = m.defined;
        known = λ v i var. Memᴰ.append_left ws (m.known v i var);
        numbers = numbers-grown ws m.known m.numbers;
      }

-- a place's derivation, when more is recorded
node-more : {f : List ℕ} {kept kept' : Applications} {places : List ℕ} {k : ℕ} {x : Prepared} → Within kept kept' → NodePlaced f kept places k x → NodePlaced f kept' places k x
node-more within (recalled r at denotes) = recalled r at (denotes-more within denotes)
node-more within applied = applied

module _ {b : Bench} {l : Lent} {c : Counts} {m : Memory} (s : Shown b l c m) where
  -- more of the pool is used, and more variables are numbered
  module _ (ws numbers' pool' : List ℕ) (count' used' : ℕ) (numbered : Numbered numbers' count' (m.variables ++ ws)) (few : count' ≤ 256)
      (numbers_sized : length numbers' ≡ length l.numbers) (pool_sized : length pool' ≡ length l.pool) (kept : take c.used pool' ≡ take c.used l.pool)
      (grows : c.used ≤ used') (room : used' ≤ b.room.pool) where
    still : {row : Row} {e : Expression} → Means (database b.file) m.variables l.pool c.used row e
        → Means (database b.file) (m.variables ++ ws) pool' used' row e
    still = let f = s.pool_few in let z = s.pool_sized in means-kept ws pool' used' kept (omega arith) (omega arith) grows

    place_still : (k : ℕ) (x : Prepared) → PlaceShown (database b.file) b.asked m.variables l.pool c.used l.places k x
        → PlaceShown (database b.file) b.asked (m.variables ++ ws) pool' used' l.places k x
    place_still k x (recalled row at tag means) = recalled row at tag (still means)
    place_still k x (applied row at tag is before kind) = applied row at tag is before kind

    pub shown-grown : Shown b (with_pool l numbers' pool') (with_used c count' used') (spend m (m.variables ++ ws) (used' - c.used))
    unfolding spend
    shown-grown =
        record {
          numbered = numbered;
          variables_few = few;
          begun = record { more = s.begun.more ++ ws; is = ap (λ (xs : List ℕ). xs ++ ws) s.begun.is ∙ append_assoc (first_variables (database b.file) b.asked) s.begun.more ws };
          mandatory_known = λ v i. Memᴰ.append_left ws (s.mandatory_known v i);
          numbers_sized = let z = s.numbers_sized in omega arith;
          pool = let e = s.pool in omega arith;
          pool_few = room;
          pool_sized = let z = s.pool_sized in omega arith;
          stack = down-map (λ k e i p. record { row = p.row; at = p.at; means = still p.means; mark = p.mark }) s.stack;
          stack_few = s.stack_few;
          stack_limit = s.stack_limit;
          stack_sized = s.stack_sized;
          places = along-map (length m.places) (omega arith) (λ k x i p. place_still k x p) s.places;
          placed = s.placed;
          places_few = s.places_few;
          places_limit = s.places_limit;
          places_sized = s.places_sized;
          locals = s.locals;
          locals_few = s.locals_few;
          locals_sized = s.locals_sized;
          tree_limit = s.tree_limit;
          nodes_few = s.nodes_few;
          derivations = s.derivations;
        }

  -- a row over the first k entries, with n tree entries used
  pub shown-pushed : (k h n : ℕ) (row : Row) {left : List Entry} (entry : Entry) → k ≤ c.depth → k < b.room.stack
      → Down (EntryShown (database b.file) m.variables l.pool c.used b.text l.stack) k left
      → ((kept : Applications) → Down (NodeShown b.file kept l.stack) c.depth m.stack → Down (NodeShown b.file kept l.stack) k left)
      → length row.vars.words ≡ 4
      → Means (database b.file) m.variables l.pool c.used row entry.proved.expression → mark_of b.text row.tag row.end ≡ entry.mark
      → Records b.file l.tree c.nodes l.stack c.depth l.places m.stack m.places n h row.node entry.proved.tree
      → Shown b (with_stack l (with_row row k l.stack)) (with_depth (with_nodes c n) (k + 1)) (pushed m h left entry)
  shown-pushed k h n row {left = es} entry below room left left-too four means mark records =
      let z = s.stack_sized in
      let y = s.stack_limit in
      let fits : 10 * k + 10 ≤ length l.stack = omega arith in
      record {
        numbered = s.numbered;
        variables_few = s.variables_few;
        begun = s.begun;
        mandatory_known = s.mandatory_known;
        numbers_sized = s.numbers_sized;
        pool = s.pool;
        pool_few = s.pool_few;
        pool_sized = s.pool_sized;
        stack =
            over refl (record { row = row; at = row_new row k l.stack fits four; means = means; mark = mark })
            (down-map (λ j e i p. record { row = p.row; at = row_kept row k l.stack fits j i p.at; means = p.means; mark = p.mark }) left);
        stack_few = omega arith;
        stack_limit = s.stack_limit;
        stack_sized = rw (with-row-length row k l.stack fits) z;
        places = s.places;
        placed = s.placed;
        places_few = s.places_few;
        places_limit = s.places_limit;
        places_sized = s.places_sized;
        locals = s.locals;
        locals_few = s.locals_few;
        locals_sized = s.locals_sized;
        tree_limit = s.tree_limit;
        nodes_few = let f = records.few in let g = s.nodes_few in omega arith;
        derivations = λ enough. held fits (s.derivations (records.sooner enough)) (records.holds enough (s.derivations (records.sooner enough)));
      }
    where
      held : 10 * k + 10 ≤ length l.stack → (d : Derivations b.file l.tree c.nodes l.stack c.depth l.places m.stack m.places)
          → Holding b.file l.tree n d.kept row.node entry.proved.tree
          → Derivations b.file l.tree n (with_row row k l.stack) (k + 1) l.places (entry ∷ es) m.places
      held fits d g =
          record {
            kept = g.now;
            recorded = g.recorded;
            on_stack =
                over refl (record { row = row; at = row_new row k l.stack fits four; denotes = g.denotes })
                (down-map (λ j e i p. record { row = p.row; at = row_kept row k l.stack fits j i p.at; denotes = denotes-more g.within p.denotes }) (left-too d.kept d.on_stack));
            in_places = along-map (length m.places) (omega arith) (λ j x i p. node-more g.within p) d.in_places;
          }

  -- a row more among the places
  pub shown-placed : (row : Row) (step : Prepared) → c.places < b.room.places
      → PlaceShown (database b.file) b.asked m.variables l.pool c.used (with_row row c.places l.places) c.places step
      → ((d : Derivations b.file l.tree c.nodes l.stack c.depth l.places m.stack m.places)
      → NodePlaced b.file d.kept (with_row row c.places l.places) c.places step)
      → Shown b (with_places_table l (with_row row c.places l.places)) (with_places c (c.places + 1)) (placed m step)
  shown-placed row step room shows node-shows =
      let z = s.places_sized in
      let y = s.places_limit in
      let n = s.placed in
      let fits : 10 * c.places + 10 ≤ length l.places = omega arith in
      record {
        numbered = s.numbered;
        variables_few = s.variables_few;
        begun = s.begun;
        mandatory_known = s.mandatory_known;
        numbers_sized = s.numbers_sized;
        pool = s.pool;
        pool_few = s.pool_few;
        pool_sized = s.pool_sized;
        stack = s.stack;
        stack_few = s.stack_few;
        stack_limit = s.stack_limit;
        stack_sized = s.stack_sized;
        places =
            along-more c.places (omega arith) (along-map c.places (omega arith) (λ k x i p. kept fits k x i p) s.places) shows;
        placed = rw length-append (omega arith);
        places_few = omega arith;
        places_limit = s.places_limit;
        places_sized = rw (with-row-length row c.places l.places fits) z;
        locals = s.locals;
        locals_few = let f = s.locals_few in omega arith;
        locals_sized = s.locals_sized;
        tree_limit = s.tree_limit;
        nodes_few = s.nodes_few;
        derivations = λ enough. held fits (s.derivations enough);
      }
    where
      node_kept : 10 * c.places + 10 ≤ length l.places → (kept : Applications) (k : ℕ) (x : Prepared) → k < c.places → NodePlaced b.file kept l.places k x
          → NodePlaced b.file kept (with_row row c.places l.places) k x
      node_kept fits kept k x i (recalled r at denotes) = recalled r (row_kept row c.places l.places fits k i at) denotes
      node_kept fits kept k x i applied = applied

      held : 10 * c.places + 10 ≤ length l.places → Derivations b.file l.tree c.nodes l.stack c.depth l.places m.stack m.places
          → Derivations b.file l.tree c.nodes l.stack c.depth (with_row row c.places l.places) m.stack (m.places ++ (step ∷ []))
      held fits d =
          let n = s.placed in
          record {
            kept = d.kept;
            recorded = d.recorded;
            on_stack = d.on_stack;
            in_places =
                along-more c.places (omega arith) (along-map c.places (omega arith) (λ k x i p. node_kept fits d.kept k x i p) d.in_places) (node-shows d);
          }

      kept : 10 * c.places + 10 ≤ length l.places → (k : ℕ) (x : Prepared) → k < c.places
          → PlaceShown (database b.file) b.asked m.variables l.pool c.used l.places k x
          → PlaceShown (database b.file) b.asked m.variables l.pool c.used (with_row row c.places l.places) k x
      kept fits k x i (recalled r at tag means) = recalled r (row_kept row c.places l.places fits k i at) tag means
      kept fits k x i (applied r at tag is before kind) = applied r (row_kept row c.places l.places fits k i at) tag is before kind

  -- entries behind those that are used are written
  pub shown-noted : (tree' : List ℕ) → length tree' ≡ length l.tree → SameUpTo l.tree tree' c.nodes → Shown b (with_tree l tree') c m
  shown-noted tree' sized same =
      record {
        numbered = s.numbered;
        variables_few = s.variables_few;
        begun = s.begun;
        mandatory_known = s.mandatory_known;
        numbers_sized = s.numbers_sized;
        pool = s.pool;
        pool_few = s.pool_few;
        pool_sized = s.pool_sized;
        stack = s.stack;
        stack_few = s.stack_few;
        stack_limit = s.stack_limit;
        stack_sized = s.stack_sized;
        places = s.places;
        placed = s.placed;
        places_few = s.places_few;
        places_limit = s.places_limit;
        places_sized = s.places_sized;
        locals = s.locals;
        locals_few = s.locals_few;
        locals_sized = s.locals_sized;
        tree_limit = rw sized s.tree_limit;
        nodes_few = s.nodes_few;
        derivations = λ enough. held (s.derivations (rw (sym sized) enough));
      }
    where
      held : Derivations b.file l.tree c.nodes l.stack c.depth l.places m.stack m.places
          → Derivations b.file tree' c.nodes l.stack c.depth l.places m.stack m.places
      held d = record { kept = d.kept; recorded = recorded-kept same d.recorded; on_stack = d.on_stack; in_places = d.in_places }
