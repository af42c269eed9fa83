-- A hypothesis that takes a place or is pushed: what was prepared is shown, and then a row more.
use Rattle.std.proofs.Common.{Ok, Err}
use Prim.Native.Nat.{ℕ, ◌+◌, ◌-◌, ◌*◌, ◌≤◌, ◌<◌}
use mathlib.Core.Path.{◌≡◌, refl, sym, ◌∙◌, ap}
use mathlib.Core.Bool.{Bool, true, false}
use mathlib.Core.List.{List, ◌++◌}
use native.Mathlib.Omega.{arith}
use lib.ListN.{length}
use Rattle.frames.specs.Database.{Database, database}
use Rattle.frames.specs.Facts.{statement_of, floated, Facts}
use Rattle.frames.specs.Logic.{at_most, pick}
use Rattle.frames.proofs.Chains.{equal-true, at_most-false}
use Rattle.facts.proofs.GoodFacts.{good-facts}
use Rattle.machine.specs.declared.Refusal.{Refusal}
use Rattle.machine.specs.declared.Refusal.TheVariants.{PlacesFull}
use Rattle.machine.specs.Chain.{fine, stop, bind}
use Rattle.machine.specs.Ground.{is_float, expression_of}
use Rattle.machine.specs.Memory.{Memory, recalls}
use Rattle.machine.specs.Prepare.{numbered_by, ready, spend, leaf_of, prepare_hypothesis, add_ready}
use Rattle.machine.specs.Apply.{run_prepared, run_ready}
use Rattle.packed.specs.Lists.{Indexed, Located}
use Rattle.resolve.specs.Resolve.{Supposable}
use Rattle.memory.specs.declared.table.Row.{Row}
use Rattle.memory.specs.declared.Counts.{Counts}
use Rattle.memory.specs.declared.Limits.{Limits}
use Rattle.memory.specs.Outcome.{Outcome}
use Rattle.memory.specs.Shown.{room_of, bench, lent, mark_of, Shown, refuses, recalled, NodePlaced, with_pool, with_used, with_places, Pushes, AddsPlace}
use Rattle.memory.proofs.Tables.{row_new}
use Rattle.memory.proofs.Stored.{push-used}
use Rattle.memory.proofs.Showing.{shown-grown}
use Rattle.tree.specs.Recorded.{hypothesis}
use Rattle.memory.proofs.Ending.{push-ends, records-none, place-ends}
use Rattle.engine.specs.Hypothesis.{result_of, Prepares}
use Rattle.engine.specs.Ready.{LeafRow, PlacesHypothesis, PushesHypothesis}
use Rattle.engine.specs.Prepared.{Made}
use Rattle.engine.proofs.Leaves.{by-grows, leaf-means}

-- the variable of a $f has its place in the table of numbers
float-inside : (db : Database) (h n : ℕ) → Facts db → h < length db.statements → length db.symbols ≤ n → is_float (statement_of db h) ≡ true → floated (statement_of db h) < n
unfolding is_float
float-inside db h n facts there sized is =
    let d = ((facts.statement h there).float_variable (equal-true _ _ is)).defined in
    omega arith

-- where a place is taken there was room, and the counts have one place more
pub place-counts : {places : List ℕ} {c : Counts} {limit : ℕ} {row : Row} {places' : List ℕ} {answer : Outcome} → AddsPlace places c limit row places' answer
    → (c' : Counts) → answer ≡ Ok c' → (c.places < limit) × (c' ≡ with_places c (c.places + 1))
unfolding pick
place-counts {c = c} {limit} adds c' e = tried (at_most limit c.places) refl (sym adds.answers ∙ e)
  where
    tried : (t : Bool) → at_most limit c.places ≡ t → pick t (Err PlacesFull) (Ok (with_places c (c.places + 1))) ≡ Ok c'
        → (c.places < limit) × (c' ≡ with_places c (c.places + 1))
    tried true f q = let z : ◌≡◌ {A = ℕ} 0 1 = cc in absurd (omega arith)
    tried false f q = (at_most-false _ _ f, cc)

module _ {f syms : List ℕ} {at : ℕ} {numbers pool : List ℕ} {c : Counts} {limits : Limits} {numbers' pool' : List ℕ} where
  module _ {why : Refusal} (prep : Prepares f syms at numbers c.count pool c.used limits.pool numbers' pool' (Err why)) where
    refused-is : (stmts : List ℕ) (p : ℕ) (text stack places locals tree : List ℕ) (h : ℕ) (m : Memory) → Indexed f syms → Located f h at
        → Shown (bench f syms stmts p limits text) (lent numbers pool stack places locals tree) c m
        → prepare_hypothesis (database f) (room_of limits) m h ≡ stop why
    unfolding result_of
    refused-is stmts p text stack places locals tree h m ix loc s =
        prep.follows h m (room_of limits) ix loc refl s.pool
        (float-inside (database f) h (length numbers) (good-facts f ix.good) loc.there s.numbers_sized) s.numbered

    pub places-refused : (places : List ℕ) → PlacesHypothesis f syms at numbers pool places c limits numbers' pool' places (Err why)
    unfolding bind
    places-refused places =
        record {
          taken = λ c' e. let z : ◌≡◌ {A = ℕ} 0 1 = cc in absurd (omega arith);
          follows = λ stmts p text stack locals tree h m ix asked loc may s.
              rw (refused-is stmts p text stack places locals tree h m ix loc s) refuses;
        }

    pub pushes-refused : (stack : List ℕ) (tag end : ℕ) → PushesHypothesis f syms at numbers pool stack c limits tag end numbers' pool' stack (Err why)
    unfolding bind
    pushes-refused stack tag end =
        record {
          grows = λ c' e. let z : ◌≡◌ {A = ℕ} 0 1 = cc in absurd (omega arith);
          follows = λ stmts p text places locals tree h m ix asked loc may s.
              rw (refused-is stmts p text stack places locals tree h m ix loc s) refuses;
        }

  module _ {to count' tag end : ℕ} {row : Row} (prep : Prepares f syms at numbers c.count pool c.used limits.pool numbers' pool' (Made to count'))
      (few : count' ≤ 256) (rises : c.used ≤ to) (room : to ≤ limits.pool) (pool_sized : length pool' ≡ length pool)
      (leaf : LeafRow f syms numbers' at c.used to tag end row) where
    module _ (stmts : List ℕ) (p : ℕ) (text stack places locals tree : List ℕ) (h : ℕ) (m : Memory) (ix : Indexed f syms) (asked : p < length (database f).statements)
        (loc : Located f h at) (may : Supposable (database f) p h)
        (s : Shown (bench f syms stmts p limits text) (lent numbers pool stack places locals tree) c m) where
      inside : is_float (statement_of (database f) h) ≡ true → floated (statement_of (database f) h) < length numbers
      inside = float-inside (database f) h (length numbers) (good-facts f ix.good) loc.there s.numbers_sized

      more : List ℕ
      more = (by-grows (database f) p h (good-facts f ix.good) loc.there asked may m.variables s.mandatory_known).0

      grown-is : numbered_by (statement_of (database f) h) m.variables ≡ m.variables ++ more
      unfolding more
      grown-is = (by-grows (database f) p h (good-facts f ix.good) loc.there asked may m.variables s.mandatory_known).1

      ready-is : prepare_hypothesis (database f) (room_of limits) m h
          ≡ fine (ready (spend m (m.variables ++ more) (to - c.used)) (recalls (leaf_of (database f) h)))
      unfolding result_of
      ready-is =
          prep.follows h m (room_of limits) ix loc refl s.pool inside s.numbered
          ∙ ap (λ (vs : List ℕ). fine (ready (spend m vs (to - c.used)) (recalls (leaf_of (database f) h)))) grown-is

      now-shown : Shown (bench f syms stmts p limits text) (with_pool (lent numbers pool stack places locals tree) numbers' pool') (with_used c count' to)
          (spend m (m.variables ++ more) (to - c.used))
      now-shown =
          shown-grown s more numbers' pool' count' to (rw grown-is at (prep.numbers h m.variables to count' loc refl inside s.numbered)) few prep.sized pool_sized prep.kept rises room

      means : Rattle.memory.specs.Shown.Means (database f) (m.variables ++ more) pool' to row (expression_of (database f) h)
      means =
          rw grown-is at
          (leaf-means ix loc asked may s.mandatory_known (prep.numbers h m.variables to count' loc refl inside s.numbered) few
          (let z = prep.sized in let y = s.numbers_sized in omega arith) leaf rises (prep.holds h to count' ix loc refl))

    pub places-added : {places places' : List ℕ} {answer : Outcome} → tag ≡ 0 → 10 * limits.places ≤ length places
        → AddsPlace places (with_used c count' to) limits.places row places' answer
        → PlacesHypothesis f syms at numbers pool places c limits numbers' pool' places' answer
    unfolding bind add_ready ready spend leaf_of
    places-added {places} {places'} zero-tag sized adds =
        record {
          taken = λ c' e.
              let k = place-counts adds c' e in
              rw k.1
              (record {
                bounded = record { variables = few; pool = room; places = let free = k.0 in omega arith };
                places = refl;
                locals = refl;
                depth = refl;
                used = rises;
              });
          follows = λ stmts p text stack locals tree h m ix asked loc may s.
              rw (ready-is stmts p text stack places locals tree h m ix asked loc may s)
              (place-ends (now-shown stmts p text stack places locals tree h m ix asked loc may s) row (recalls (leaf_of (database f) h)) adds
              (λ free. recalled row (row_new row c.places places (omega arith) leaf.sized) (leaf.tag_is ∙ zero-tag) (means stmts p text stack places locals tree h m ix asked loc may s))
              (λ free d. recalled row (row_new row c.places places (omega arith) leaf.sized) (hypothesis loc leaf.word_is)));
        }

    pub pushes-added : {stack stack' : List ℕ} {answer : Outcome} → Pushes stack (with_used c count' to) limits.stack c.depth row stack' answer
        → PushesHypothesis f syms at numbers pool stack c limits tag end numbers' pool' stack' answer
    unfolding bind run_ready run_prepared ready spend leaf_of
    pushes-added {stack} {stack'} pushes =
        record {
          grows = λ c' e. let u = push-used pushes e in omega arith;
          follows = λ stmts p text places locals tree h m ix asked loc may s.
              let now = now-shown stmts p text stack places locals tree h m ix asked loc may s in
              rw (ready-is stmts p text stack places locals tree h m ix asked loc may s)
              (push-ends now c.depth 0 c.nodes row (record { proved = leaf_of (database f) h; mark = mark_of text tag end }) pushes (omega arith) now.stack (λ kept d. d) leaf.sized
              (means stmts p text stack places locals tree h m ix asked loc may s) (rw (leaf.tag_is, leaf.end_is) refl) (records-none now 0 row.node (leaf_of (database f) h).tree (λ d. hypothesis loc leaf.word_is)));
        }
