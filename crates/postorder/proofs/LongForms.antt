-- Demand 3: the long form of an accepted proof, put into the old proof's place, is accepted for the same claim with the same derivation,
-- and its long form is itself; or a run lacks room. The first run has `room`, the second `room'`, each cut to the greatest sizes; `entries`
-- and `output` are lent to the first long-form call, `entries'` and `output'` to the second.
use Rattle.std.proofs.Common.{Ok, Err}
use Prim.Native.Nat.{ℕ, ◌≤◌, ◌<◌, min}
use mathlib.Core.Path.{◌≡◌, refl, sym, ◌∙◌}
use mathlib.Core.Bool.{Bool, true, false}
use mathlib.Core.List.{List}
use native.Mathlib.Omega.{arith}
use lib.ListN.{length}
use Rattle.book.specs.Book.{Tree}
use Rattle.frames.specs.Logic.{below, equal, pick}
use Rattle.frames.specs.Database.{Database, database, GoodFile}
use Rattle.frames.specs.Facts.{statement_of}
use Rattle.frames.specs.Verdict.{verdict, Verdict, Good, Refused}
use Rattle.frames.proofs.Chains.{equal-yes, equal-true, at_most-true}
use Rattle.facts.proofs.GoodFacts.{good-facts}
use Rattle.facts.proofs.Unique.{good-answer}
use Rattle.machine.specs.Answer.{Answer, accepted, refused, turned_away, not_provable, number, refusal_number}
use Rattle.machine.specs.Memory.{Room, limited}
use Rattle.machine.specs.Run.{run}
use Rattle.machine.specs.Bench.{ended, answer_good, judged, answer}
use Rattle.machine.specs.Promise.{Proves, Counted, all_steps}
use Rattle.machine.proofs.Acceptance.{there-is, accepted-derives}
use Rattle.machine.proofs.Numbers.{refusal-number}
use Rattle.machine.proofs.Counts.{answer-counted}
use Rattle.postorder.specs.LongForm.{long_text, fits, most_bytes, nothing_written, written, LongAnswer, long_of, long_answer, with_proof, entries_for}
use Rattle.postorder.specs.SameBut.{SameBut}
use Rattle.postorder.proofs.Sizes.{fits-exactly}
use Rattle.postorder.proofs.Comes.{pool_full, stack_full}
use Rattle.postorder.proofs.Numbering.{NamedBy, named_by, run-named}
use Rattle.postorder.proofs.Again.{Again, again, lacking, start-few, derivation-again}
use Rattle.postorder.proofs.Answers.{zero-written, one-long-form}
use Rattle.postorder.proofs.NewFile.{stays-good, same-but}
use Rattle.postorder.proofs.SameGround.{expression-same, first-same, text_same, covered_same, derives-same}

-- what an acceptance says: the file is good, the statement is a $p, and its proof was run
record Ran (file : List ℕ) (p : ℕ) (room : Room) (a : Answer) : Type 0 where
  good : GoodFile file
  kind : (statement_of (database file) p).kind ≡ 5
  runs : ended (run (database file) p (limited room) (statement_of (database file) p).text) ≡ a

accepted-ran : (file : List ℕ) (p : ℕ) (room : Room) (place steps consumed : ℕ) (tree : Tree)
    → answer file p room ≡ accepted place steps consumed tree → Ran file p room (accepted place steps consumed tree)
unfolding answer judged answer_good pick
accepted-ran file p room place steps consumed tree e = by-verdict (verdict file) refl e
  where
    by_kind : GoodFile file → (t : Bool) → equal (statement_of (database file) p).kind 5 ≡ t
        → pick t (ended (run (database file) p (limited room) (statement_of (database file) p).text)) not_provable ≡ accepted place steps consumed tree
        → Ran file p room (accepted place steps consumed tree)
    by_kind good true k q = record { good = good; kind = equal-true _ _ k; runs = q }
    by_kind good false k q = let z : ◌≡◌ {A = ℕ} 0 1 = cc in absurd (omega arith)

    by-verdict : (v : Verdict) → verdict file ≡ v → judged v (answer_good (database file) p room) ≡ accepted place steps consumed tree
        → Ran file p room (accepted place steps consumed tree)
    by-verdict (Ok sizes) c q = by_kind (good-answer file sizes.symbols sizes.statements c).0 _ refl q
    by-verdict (Err away) c q = let z : ◌≡◌ {A = ℕ} 0 1 = cc in absurd (omega arith)

-- the answer for a $p of a good file is that of its run
ran-answer : (file : List ℕ) (p : ℕ) (room : Room) → GoodFile file → (statement_of (database file) p).kind ≡ 5
    → answer file p room ≡ ended (run (database file) p (limited room) (statement_of (database file) p).text)
unfolding answer judged answer_good pick
ran-answer file p room good kind = rw (good.is, equal-yes kind)

-- success, or a lack of room: 43, 45, 60, 61
pub data Enough : ℕ → Type 0 where
  writes : Enough 0
  no_pool : Enough 43
  no_stack : Enough 45
  no_entries : Enough 60
  no_output : Enough 61

told : (db : Database) (entries output : ℕ) (tree : Tree) (a : Answer) → Again tree a → (long_of db entries output a).number ≡ 0
    → (long_of db entries output a).text ≡ long_text db tree
unfolding long_of nothing_written number
told db entries output tree _ (again {place} {steps} {consumed}) z = one-long-form db entries output place steps consumed tree z
told db entries output tree _ (lacking {why} l) z = absurd (omega (arith, refusal-number why))

numbers : (db : Database) (entries output : ℕ) (tree : Tree) (a : Answer) → Again tree a → Enough (long_of db entries output a).number
unfolding long_of nothing_written written pick number refusal_number
numbers db entries output tree _ (again {place} {steps} {consumed}) =
    tried (below entries (entries_for steps)) (fits db tree (most_bytes output))
  where
    tried : (t u : Bool)
        → Enough (pick t (nothing_written 60 place steps) (pick u (written steps (long_text db tree)) (nothing_written 61 place steps))).number
    tried true u = no_entries
    tried false true = writes
    tried false false = no_output
numbers db entries output tree _ (lacking pool_full) = no_pool
numbers db entries output tree _ (lacking stack_full) = no_stack

placed : {L place steps consumed : ℕ} {tree : Tree} → Counted L (accepted place steps consumed tree) → place ≡ L
placed (all_steps b l) = refl

derived-same : {tree tree' : Tree} {place steps consumed : ℕ} (a : Answer) → Again tree a → a ≡ accepted place steps consumed tree' → tree' ≡ tree
derived-same _ again e = cc
derived-same _ (lacking l) e = let z : ◌≡◌ {A = ℕ} 0 1 = cc in absurd (omega arith)

-- a text that is written has at most 65,536 bytes
zero-short : (db : Database) (entries output : ℕ) (a : Answer) → (long_of db entries output a).number ≡ 0
    → length (long_of db entries output a).text ≤ 65536
unfolding long_of nothing_written written pick most_bytes
zero-short db entries output (accepted at completed consumed tree) z =
    tried (below entries (entries_for completed)) (fits db tree (min output 65536)) refl z
  where
    tried : (t u : Bool) → fits db tree (min output 65536) ≡ u
        → (pick t (nothing_written 60 at completed) (pick u (written completed (long_text db tree)) (nothing_written 61 at completed))).number ≡ 0
        → length (pick t (nothing_written 60 at completed) (pick u (written completed (long_text db tree)) (nothing_written 61 at completed))).text ≤ 65536
    tried true u e n = absurd (omega arith)
    tried false true e n = omega (arith, at_most-true _ _ (sym (fits-exactly db tree (min output 65536)) ∙ e))
    tried false false e n = absurd (omega arith)
zero-short db entries output (refused why at completed) z = omega arith
zero-short db entries output (turned_away why at) z = omega arith
zero-short db entries output not_provable z = omega arith

module _ (file : List ℕ) (p : ℕ) (room : Room) (place steps consumed : ℕ) (tree : Tree)
    (accepts : answer file p room ≡ accepted place steps consumed tree)
    (short : length (long_text (database file) tree) ≤ 65536)
    (whole : length (with_proof file p (long_text (database file) tree)) ≤ 1048576) where
  ran : Ran file p room (accepted place steps consumed tree)
  ran = accepted-ran file p room place steps consumed tree accepts

  there : p < length (database file).statements
  there = there-is (database file) p ran.kind

  -- the new file is good, and its database is the old one but for the text
  pub long-form-good : GoodFile (with_proof file p (long_text (database file) tree))
  long-form-good = stays-good file p (long_text (database file) tree) ran.good there ran.kind short whole

  pub long-form-same : SameBut (database file) (database (with_proof file p (long_text (database file) tree))) p (long_text (database file) tree)
  long-form-same = same-but file p (long_text (database file) tree) ran.good there ran.kind short whole

  -- accepted again, with the same derivation, in any room; or 43 or 45
  pub long-form-accepted : (room' : Room) → Again tree (answer (with_proof file p (long_text (database file) tree)) p room')
  long-form-accepted room' =
      let same = long-form-same in
      let kind' = (same.statement p).kind ∙ ran.kind in
      rw (ran-answer _ p room' long-form-good kind', same.text_is)
      (by_names (rw ran.runs at (run-named (database file) p (limited room) (statement_of (database file) p).text)))
    where
      same-claim : SameBut (database file) (database (with_proof file p (long_text (database file) tree))) p (long_text (database file) tree)
          → Proves (database (with_proof file p (long_text (database file) tree))) p tree
      same-claim same =
          rw (expression-same (database file) _ p _ same p)
          (derives-same (database file) _ p _ same tree (accepted-derives file p room accepts))

      by_names : NamedBy (database file) p (accepted place steps consumed tree)
          → Again tree (ended (run (database (with_proof file p (long_text (database file) tree))) p (limited room')
          (long_text (database file) tree)))
      by_names (named_by vars few inside c) =
          let same = long-form-same in
          let db = database file in
          let first = first-same db _ p _ same in
          let l = start-few db p (limited room) (statement_of db p).text place steps consumed tree ran.runs in
          let there' : p < length (database (with_proof file p (long_text (database file) tree))).statements = omega (arith, there, same.statement_count) in
          rw (text_same db _ p _ same tree) at
          (derivation-again _ p (good-facts _ long-form-good) there' (limited room') vars (few l) (rw first l)
          (λ v m. inside v (rw first at m)) tree (same-claim same)
          (covered_same db _ p _ same vars _ c))

  -- where it is accepted, its place is the length of the text
  pub long-form-place : (room' : Room) (place' steps' consumed' : ℕ) (tree' : Tree)
      → answer (with_proof file p (long_text (database file) tree)) p room' ≡ accepted place' steps' consumed' tree'
      → (place' ≡ length (long_text (database file) tree)) × (tree' ≡ tree)
  long-form-place room' place' steps' consumed' tree' e =
      let same = long-form-same in
      let counted = answer-counted _ p room' _ _ long-form-good.is ((same.statement p).kind ∙ ran.kind) in
      (placed (rw (e, same.text_is) at counted), derived-same _ (long-form-accepted room') e)

  -- its own long form: where the second call succeeds, it writes the same text
  pub long-form-own : (room' : Room) (entries' output' : ℕ)
      → (long_answer (with_proof file p (long_text (database file) tree)) p room' entries' output').number ≡ 0
      → (long_answer (with_proof file p (long_text (database file) tree)) p room' entries' output').text ≡ long_text (database file) tree
  unfolding long_answer
  long-form-own room' entries' output' z =
      told (database (with_proof file p (long_text (database file) tree))) entries' output' tree _ (long-form-accepted room') z
      ∙ text_same (database file) _ p _ long-form-same tree

  -- the second call succeeds, or a run lacks room
  pub long-form-numbers : (room' : Room) (entries' output' : ℕ)
      → Enough (long_answer (with_proof file p (long_text (database file) tree)) p room' entries' output').number
  unfolding long_answer
  long-form-numbers room' entries' output' =
      numbers (database (with_proof file p (long_text (database file) tree))) entries' output' tree _ (long-form-accepted room')

-- accepted, with this derivation
pub data AcceptedWith (tree : Tree) : Answer → Type 0 where
  accepted_with : {place steps consumed : ℕ} → AcceptedWith tree (accepted place steps consumed tree)

accepted-as : {a : Answer} {place steps consumed : ℕ} {tree : Tree} → a ≡ accepted place steps consumed tree → AcceptedWith tree a
accepted-as e = rw e accepted_with

-- all of it in terms of the call: for every file, statement number and room, if the call writes a text, and the file with that text in the
-- old proof's place is within its size limit, then that file is good, its database is the old one but for that text, its proof is accepted
-- with the derivation of the old one or lacks room, and the call on it, whatever is lent to it, writes the same text again or says
-- that room is lacking
pub record OneLongForm (file : List ℕ) (p : ℕ) (text : List ℕ) (first second : Answer) (again : LongAnswer) : Type 0 where
  pub derivation : Tree
  pub text_is : text ≡ long_text (database file) derivation
  pub proves : Proves (database file) p derivation
  pub accepts : AcceptedWith derivation first
  pub accepts_again : Again derivation second
  pub good : GoodFile (with_proof file p text)
  pub same : SameBut (database file) (database (with_proof file p text)) p text
  pub number : Enough again.number
  pub text_again : again.number ≡ 0 → again.text ≡ text

pub demand-three : (file : List ℕ) (p : ℕ) (room room' : Room) (entries output entries' output' : ℕ) (text : List ℕ)
    → (long_answer file p room entries output).number ≡ 0 → (long_answer file p room entries output).text ≡ text
    → length (with_proof file p text) ≤ 1048576 → OneLongForm file p text (answer file p room) (answer (with_proof file p text) p room') (long_answer (with_proof file p text) p room' entries' output')
unfolding long_answer
demand-three file p room room' entries output entries' output' text z t whole =
    let w = zero-written (database file) entries output (answer file p room) z in
    let e : text ≡ long_text (database file) w.tree = sym t ∙ w.text in
    let short : length (long_text (database file) w.tree) ≤ 65536 =
    rw (sym t ∙ w.text) at (rw t at (zero-short (database file) entries output (answer file p room) z)) in
    let whole' : length (with_proof file p (long_text (database file) w.tree)) ≤ 1048576 = rw e at whole in
    rw e
    (record {
      derivation = w.tree;
      text_is = refl;
      proves = accepted-derives file p room w.accepts;
      accepts = accepted-as w.accepts;
      accepts_again = long-form-accepted file p room w.place _ w.consumed w.tree w.accepts short whole' room';
      good = long-form-good file p room w.place _ w.consumed w.tree w.accepts short whole';
      same = long-form-same file p room w.place _ w.consumed w.tree w.accepts short whole';
      number = long-form-numbers file p room w.place _ w.consumed w.tree w.accepts short whole' room' entries' output';
      text_again = long-form-own file p room w.place _ w.consumed w.tree w.accepts short whole' room' entries' output';
    })
