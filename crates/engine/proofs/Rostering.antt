-- What takes places before the letters of a compressed proof: an assertion, a roster label, and the listed hypotheses one after another.
use Rattle.std.proofs.Common.{Ok, Err}
use Prim.Native.Nat.{ℕ, zero, suc, ◌+◌, ◌≤◌, ◌<◌}
use mathlib.Core.Path.{◌≡◌, refl, sym, ◌∙◌, ap}
use mathlib.Core.Logic.{inr}
use mathlib.Core.List.Memᴰ
use mathlib.Core.List.{List, [], ◌∷◌}
use native.Mathlib.Omega.{arith}
use lib.ListN.{length, get_or, drop, drop_of_length-le}
use Rattle.frames.specs.Database.{database, statement_at}
use Rattle.frames.specs.Facts.{◌∈◌, statement_of}
use Rattle.frames.specs.declared.numbers.PlaceNo.{PlaceNo}
use Rattle.frames.specs.declared.numbers.StatementNo.{StatementNo}
use Rattle.frames.proofs.Loops.{here-list}
use Rattle.facts.proofs.GoodFacts.{good-facts}
use Rattle.machine.specs.declared.Refusal.{Refusal}
use Rattle.machine.specs.Chain.{Result, bind}
use Rattle.machine.specs.Memory.{Memory, applies}
use Rattle.machine.specs.Prepare.{ready, add_ready, prepare_hypothesis, prepare_roster, preload}
use Rattle.packed.specs.Lists.{Located}
use Rattle.resolve.specs.Readied.{Readied, Place, Hypothesis, Frame}
use Rattle.resolve.specs.Filed.{Filed}
use Rattle.resolve.specs.Resolve.{readied, Supposable, PreparesLabel}
use Rattle.resolve.proofs.Filing.{located-statement, filed-indexed, filed-located}
use Rattle.memory.specs.declared.table.Row.{Row}
use Rattle.memory.specs.declared.Counts.{Counts}
use Rattle.memory.specs.declared.Limits.{Limits}
use Rattle.memory.specs.Outcome.{Outcome}
use Rattle.memory.specs.Shown.{room_of, bench, lent, applied, Shown, Ends, goes, refuses, AddsPlace}
use Rattle.memory.proofs.Tables.{row_new}
use Rattle.memory.proofs.Ending.{ends_by, ends-go, ends-refused, place-ends}
use Rattle.engine.specs.Ready.{Bounded, Taken, PlacesHypothesis}
use Rattle.engine.specs.Roster.{PlacesFrame, PreparesRoster, Preloads}
use Rattle.engine.proofs.Readying.{place-counts}

-- the row of an assertion takes a place
pub frame-placed : {places : List ℕ} {a : ℕ} {c : Counts} {limit : ℕ} {row : Row} {places' : List ℕ} {answer : Outcome} → AddsPlace places c limit row places' answer
    → row.head ≡ a → row.tag ≡ 1 → length row.vars.words ≡ 4 → PlacesFrame places a c limit places' answer
frame-placed {places} {a} {c} {limit} {row} adds head tag four =
    record {
      taken = place-counts adds;
      follows = λ b l m limit_is places_is may s.
          let fits = s.places_sized in
          place-ends s row (applies a) (rw (limit_is, places_is) adds)
          (λ free. applied row (row_new row c.places l.places (omega arith) four) tag head may.earlier may.kind)
          (λ free d. applied);
    }

-- a statement of the file, by the offset in the table
located-at : {f syms stmts : List ℕ} {h at : ℕ} → Filed f syms stmts → h < length (database f).statements → at ≡ get_or stmts h 0 → Located f h at
located-at {h = h} w there e = rw e (filed-located w h there)

-- a roster label, by what it names
named : {f syms stmts : List ℕ} {p : ℕ} {label : List ℕ} {step s : Readied} (limits : Limits) (m : Memory) → PreparesLabel f stmts p label step → step ≡ s
    → Filed f syms stmts → p < length (database f).statements
    → prepare_roster (database f) p (room_of limits) m label ≡ bind (readied (database f) (room_of limits) m s) (add_ready (room_of limits))
unfolding prepare_roster
named {f} {syms} limits m prep e w asked =
    ap (λ r. bind r (add_ready (room_of limits))) (prep.follows syms (room_of limits) m w asked ∙ ap (readied (database f) (room_of limits) m) e)

module _ {f syms stmts : List ℕ} {p : ℕ} {label : List ℕ} {step : Readied} (prep : PreparesLabel f stmts p label step)
    {numbers pool places : List ℕ} {c : Counts} {limits : Limits} where
  -- a $f or $e
  pub roster-hypothesis : {h : StatementNo} {at : ℕ} {numbers' pool' places' : List ℕ} {answer : Outcome} → step ≡ Hypothesis h → at ≡ get_or stmts h.0 0
      → PlacesHypothesis f syms at numbers pool places c limits numbers' pool' places' answer
      → PreparesRoster f syms stmts p label numbers pool places c limits numbers' pool' places' answer
  unfolding readied
  roster-hypothesis {h} e offset placed =
      record {
        taken = placed.taken;
        follows = λ text stack locals tree m w asked s.
            let may = (prep.sensible syms w asked).hypothesis h e in
            let before = may.earlier in
            ends_by (named limits m prep e w asked) refl
            (placed.follows stmts p text stack locals tree h.0 m (filed-indexed w) asked (located-at w (omega arith) offset) may s);
      }

  -- a $a or $p
  pub roster-frame : {a : StatementNo} {n : ℕ} {places' : List ℕ} {answer : Outcome} → step ≡ Frame a → Bounded limits c
      → PlacesFrame places n c limits.places places' answer → n ≡ a.0
      → PreparesRoster f syms stmts p label numbers pool places c limits numbers pool places' answer
  unfolding readied bind add_ready ready
  roster-frame {a} e bounds placed is =
      record {
        taken = λ c' q.
            let k = placed.taken c' q in
            rw k.1
            (record {
              bounded = record { variables = bounds.variables; pool = bounds.pool; places = let free = k.0 in omega arith };
              places = refl;
              locals = refl;
              depth = refl;
              used = omega arith;
            });
        follows = λ text stack locals tree m w asked s.
            ends_by (named limits m prep e w asked) refl
            ((rw is at placed).follows (bench f syms stmts p limits text) (lent numbers pool stack places locals tree) m refl refl ((prep.sensible syms w asked).frame a e) s);
      }

  -- 25, 29, 30
  pub roster-refused : {why : Refusal} → step ≡ Err why
      → PreparesRoster f syms stmts p label numbers pool places c limits numbers pool places (Err why)
  unfolding readied bind
  roster-refused e =
      record {
        taken = λ c' q. let z : ◌≡◌ {A = ℕ} 0 1 = cc in absurd (omega arith);
        follows = λ text stack locals tree m w asked s. ends_by (named limits m prep e w asked) refl refuses;
      }

  -- it is no place
  pub roster-place : {k : PlaceNo} {answer : Outcome} → step ≡ Place k → PreparesRoster f syms stmts p label numbers pool places c limits numbers pool places answer
  roster-place {k} e = absurd (prep.nowhere k e)

-- a listed hypothesis may be supposed
listed-supposable : {f : List ℕ} {syms stmts : List ℕ} {p h : ℕ} → Filed f syms stmts → p < length (database f).statements → h ∈ (statement_of (database f) p).hyps
    → Supposable (database f) p h
listed-supposable {f} {p = p} {h} w asked listed =
    let active = ((good-facts f w.good).statement p asked).hyps_active h listed in
    record { earlier = active.earlier; kind = active.kind; own = inr listed }

-- one place after i of them
taken_more : {limits : Limits} {c₀ c c' : Counts} {i : ℕ} → Taken limits c₀ i c → Taken limits c 1 c' → Taken limits c₀ (i + 1) c'
taken_more before now =
    record {
      bounded = now.bounded;
      places = let a = before.places in let b = now.places in omega arith;
      locals = now.locals ∙ before.locals;
      depth = now.depth ∙ before.depth;
      used = let a = before.used in let b = now.used in omega arith;
    }

-- the member at i stands in the list
get_or-there : (xs : List ℕ) (i : ℕ) → i < length xs → get_or xs i 0 ∈ xs
get_or-there [] i few = absurd (omega arith)
get_or-there (x ∷ xs) zero few = Memᴰ.head refl
get_or-there (x ∷ xs) (suc i) few = Memᴰ.tail (get_or-there xs i (omega arith))

-- a memory that is shown now, from which what is left is what the whole is from m
pub record PreloadedTo (f syms stmts : List ℕ) (p : ℕ) (limits : Limits) (text : List ℕ) (hyps : List ℕ) (m : Memory) (i : ℕ)
    (numbers pool stack places locals tree : List ℕ) (c : Counts) : Type 0 where
  pub memory : Memory
  pub shown : Shown (bench f syms stmts p limits text) (lent numbers pool stack places locals tree) c memory
  pub left : preload (database f) (room_of limits) (drop i hyps) memory ≡ preload (database f) (room_of limits) hyps m

-- so far: i places more are taken, and what is left is what the whole is
pub record Preloading (f syms stmts : List ℕ) (at : ℕ) (limits : Limits) (numbers₀ pool₀ places₀ : List ℕ) (c₀ : Counts) (i : ℕ) (numbers pool places : List ℕ)
    (c : Counts) : Type 0 where
  pub numbers_sized : length numbers ≡ length numbers₀
  pub pool_sized : length pool ≡ length pool₀
  pub places_sized : length places ≡ length places₀
  pub few : i ≤ length (statement_at f at).hyps
  pub taken : Taken limits c₀ i c
  pub goes_on : (p : ℕ) (text stack locals tree : List ℕ) (m : Memory) → Filed f syms stmts → Located f p at
      → Shown (bench f syms stmts p limits text) (lent numbers₀ pool₀ stack places₀ locals tree) c₀ m
      → PreloadedTo f syms stmts p limits text (statement_at f at).hyps m i numbers pool stack places locals tree c

pub preload-none : {f syms stmts : List ℕ} {at : ℕ} {limits : Limits} {numbers pool places : List ℕ} {c : Counts} → Bounded limits c
    → Preloading f syms stmts at limits numbers pool places c 0 numbers pool places c
preload-none bounds =
    record {
      numbers_sized = refl;
      pool_sized = refl;
      places_sized = refl;
      few = omega arith;
      taken = record { bounded = bounds; places = omega arith; locals = refl; depth = refl; used = omega arith };
      goes_on = λ p text stack locals tree m w loc s. record { memory = m; shown = s; left = refl };
    }

module _ {f syms stmts : List ℕ} {at : ℕ} {limits : Limits} {numbers₀ pool₀ places₀ : List ℕ} {c₀ : Counts} {i : ℕ} {numbers pool places : List ℕ} {c : Counts}
    (so_far : Preloading f syms stmts at limits numbers₀ pool₀ places₀ c₀ i numbers pool places c) where
  -- the next hypothesis
  module _ (rest : i < length (statement_at f at).hyps) {h o : ℕ} {numbers' pool' places' : List ℕ} {answer : Outcome}
      (placed : PlacesHypothesis f syms o numbers pool places c limits numbers' pool' places' answer) (is : h ≡ get_or (statement_at f at).hyps i 0)
      (offset : o ≡ get_or stmts h 0) where
    module _ (p : ℕ) (text stack locals tree : List ℕ) (m : Memory) (w : Filed f syms stmts) (loc : Located f p at)
        (s : Shown (bench f syms stmts p limits text) (lent numbers₀ pool₀ stack places₀ locals tree) c₀ m) where
      reached : PreloadedTo f syms stmts p limits text (statement_at f at).hyps m i numbers pool stack places locals tree c
      reached = so_far.goes_on p text stack locals tree m w loc s

      one : Ends (Shown (bench f syms stmts p limits text) (lent numbers' pool' stack places' locals tree))
          (bind (prepare_hypothesis (database f) (room_of limits) reached.memory h) (add_ready (room_of limits))) answer
      one =
          let listed : h ∈ (statement_of (database f) p).hyps = rw (located-statement loc, is) (get_or-there (statement_at f at).hyps i rest) in
          let may = listed-supposable w loc.there listed in
          let before = may.earlier in
          let inside = loc.there in
          placed.follows stmts p text stack locals tree h reached.memory (filed-indexed w) loc.there (located-at w (omega arith) offset) may reached.shown

      whole : {r : Result Memory} → bind (prepare_hypothesis (database f) (room_of limits) reached.memory h) (add_ready (room_of limits)) ≡ r
          → preload (database f) (room_of limits) (statement_at f at).hyps m ≡ bind r (preload (database f) (room_of limits) (drop (i + 1) (statement_at f at).hyps))
      unfolding preload
      whole e =
          let here = (here-list (statement_at f at).hyps i 0 rest).is in
          sym reached.left ∙ (ap (λ hs. preload (database f) (room_of limits) hs reached.memory) (rw (sym is) at here)
          ∙ ap (λ r. bind r (preload (database f) (room_of limits) (drop (i + 1) (statement_at f at).hyps))) e)

    pub preload-more : {c' : Counts} → answer ≡ Ok c' → length numbers' ≡ length numbers₀ → length pool' ≡ length pool₀ → length places' ≡ length places₀
        → Preloading f syms stmts at limits numbers₀ pool₀ places₀ c₀ (i + 1) numbers' pool' places' c'
    unfolding bind
    preload-more {c'} e numbers_sized pool_sized places_sized =
        record {
          numbers_sized = numbers_sized;
          pool_sized = pool_sized;
          places_sized = places_sized;
          few = omega arith;
          taken = taken_more so_far.taken (placed.taken c' e);
          goes_on = λ p text stack locals tree m w loc s.
              let now = ends-go (ends_by refl (sym e) (one p text stack locals tree m w loc s)) in
              record { memory = now.0; shown = now.2; left = sym (whole p text stack locals tree m w loc s now.1) };
        }

    -- 44, 43, 46
    pub preload-stop : {why : Refusal} → answer ≡ Err why → Preloads f syms stmts at numbers₀ pool₀ places₀ c₀ limits numbers' pool' places' (Err why)
    unfolding bind
    preload-stop e =
        record {
          taken = λ c' q. let z : ◌≡◌ {A = ℕ} 0 1 = cc in absurd (omega arith);
          follows = λ p text stack locals tree m w loc s.
              let told = ends-refused (ends_by refl (sym e) (one p text stack locals tree m w loc s)) in
              ends_by (rw (located-statement loc) (whole p text stack locals tree m w loc s told)) refl refuses;
        }

  -- all of them have a place
  pub preload-done : length (statement_at f at).hyps ≤ i → Preloads f syms stmts at numbers₀ pool₀ places₀ c₀ limits numbers pool places (Ok c)
  unfolding preload
  preload-done done =
      record {
        taken = λ c' q.
            let same : c' ≡ c = cc in
            let all-of-them : i ≡ length (statement_at f at).hyps = let few = so_far.few in omega arith in
            rw (same, ← all-of-them) so_far.taken;
        follows = λ p text stack locals tree m w loc s.
            let now = so_far.goes_on p text stack locals tree m w loc s in
            ends_by (rw (located-statement loc) (sym (rw (drop_of_length-le (statement_at f at).hyps done) at now.left))) refl (goes now.shown);
      }
