-- Acceptance means derivation: if the bench answers 0, the tree that the run built is a derivation, by the book's rules, of the claim from
-- its own $e, the active $f and earlier assertions. Soundness is followed through the run; a good file has the facts that it needs.
use Rattle.std.proofs.Common.{Ok, Err}
use Prim.Native.Nat.{ℕ, ◌<◌}
use mathlib.Core.Path.{◌≡◌, refl, ap, ◌∙◌}
use mathlib.Core.Bool.{Bool, true, false}
use mathlib.Core.Option.{none}
use mathlib.Core.List.{List, []}
use native.Mathlib.Omega.{arith}
use lib.ListN.{length}
use Rattle.book.specs.Book.{Expression, Tree, Derives}
use Rattle.frames.specs.Logic.{below, equal, pick}
use Rattle.frames.specs.Database.{Statement, Database, database}
use Rattle.frames.specs.Facts.{statement_of, Facts}
use Rattle.frames.specs.Verdict.{verdict, Verdict, Good, Refused}
use Rattle.frames.proofs.Chains.{equal-true, below_true, below_false}
use Rattle.frames.proofs.Tells.{no_false}
use Rattle.frames.proofs.Found.{same_true}
use Rattle.frames.proofs.Loops.{get_or_past}
use Rattle.facts.proofs.GoodFacts.{good-facts}
use Rattle.facts.proofs.Unique.{good-answer}
use Rattle.machine.specs.Chain.{Result}
use Rattle.machine.specs.Answer.{Answer, accepted, refused, turned_away, not_provable, number}
use Rattle.machine.specs.Ground.{ground, expression_of}
use Rattle.machine.specs.Memory.{Room, limited, Proved, Entry, Memory}
use Rattle.machine.specs.Run.{Mode, beginning, normal, in_roster, in_letters, step_at, is_claim, only_entry, unfinished, first_variables, fresh, run}
use Rattle.machine.specs.Bench.{ended, answer_good, judged, answer}
use Rattle.machine.specs.Promise.{Proves, Derived, derived, no_proof, no_file, no_claim}
use Rattle.machine.proofs.Gives.{Gives, gives, stops, unless-gives, bind-gives}
use Rattle.machine.proofs.Every.{Every, none, also}
use Rattle.machine.proofs.Bound.{same-expression}
use Rattle.machine.proofs.Holds.{Holds, EntryHolds, Sound, save-sound, local-sound}
use Rattle.machine.proofs.Prepared.{roster-sound, preload-sound, prepare_place-sound, normal-sound}
use Rattle.machine.proofs.Applied.{ready-runs}
use Rattle.machine.proofs.Numbers.{refusal-number, file-number}
use Rattle.machine.proofs.Follow.{Followed, followed}

-- an end in any mode refuses, or leaves it to the rest
pub unfinished-gives : {P : Proved → Type 0} {rest : Result Proved} (mode : Mode) → Gives P rest → Gives P (unfinished mode rest)
unfolding unfinished
unfinished-gives beginning g = g
unfinished-gives normal g = g
unfinished-gives in_roster g = stops
unfinished-gives (in_letters k can) g = unless-gives _ _ (λ t. g)

module _ (db : Database) (p : ℕ) where
  claim-derived : {claim : Expression} (x : Proved) → Holds db p x → Gives (λ y. Derives (ground db p) y.tree claim) (is_claim claim x)
  unfolding is_claim
  claim-derived {claim} x held =
      unless-gives _ _ (λ t. unless-gives _ _ (λ s.
      let is : x.expression ≡ claim = same-expression (equal-true _ _ (no_false _ t)) (same_true _ _ (no_false _ s)) in
      gives (rw is at held.derives)))

  entry-derived : {claim : Expression} {es : List Entry} → Every (EntryHolds db p) es
      → Gives (λ y. Derives (ground db p) y.tree claim) (only_entry claim es)
  unfolding only_entry
  entry-derived none = stops
  entry-derived (also e none) = claim-derived _ e.holds
  entry-derived (also e (also f es)) = stops

  accepts : {L : ℕ} {m : Memory} (mode : Mode) → Sound db p m
      → Gives (λ x. Derived db p (accepted L m.steps m.consumed x.tree)) (unfinished mode (only_entry (expression_of db p) m.stack))
  accepts mode s = unfinished-gives mode (wrapped (entry-derived s.stack))
    where
      wrapped : {L n c : ℕ} {r : Result Proved} → Gives (λ y. Derives (ground db p) y.tree (expression_of db p)) r
          → Gives (λ x. Derived db p (accepted L n c x.tree)) r
      wrapped (gives d) = gives (derived d)
      wrapped stops = stops

  module _ (facts : Facts db) (there : p < length db.statements) (room : Room) where
    begins : Sound db p (fresh (first_variables db p))
    unfolding fresh
    begins = record { stack = none; places = none }

    sound-followed : (L : ℕ) → Followed db p room L (λ n m. Sound db p m) (Derived db p)
    unfolding step_at
    sound-followed L =
        record {
          begins = begins;
          stays = λ l s. s;
          preloads = λ s. preload-sound db p facts there room _ _ (λ h n. n) s;
          rosters = λ label s. roster-sound db p facts there room _ label s;
          letters = λ k s. bind-gives (prepare_place-sound db p facts there room _ k s) (ready-runs db p facts there room none);
          saves = λ s. save-sound room _ s s.stack;
          tokens = λ token s. bind-gives (normal-sound db p facts there room _ token s) (ready-runs db p facts there room token.mark);
          locals = λ label s. local-sound room _ label s;
          refuses = λ why n k s. no_proof;
          refuses_first = λ why. no_proof;
          accepts = accepts;
        }

    pub run-derived : (text : List ℕ) → Derived db p (ended (run db p room text))
    run-derived text = followed (sound-followed (length text)) text refl

-- a statement that is a $p is there
pub there-is : (db : Database) (p : ℕ) → (statement_of db p).kind ≡ 5 → p < length db.statements
unfolding statement_of
there-is db p k = tried (below p (length db.statements)) refl
  where
    tried : (t : Bool) → below p (length db.statements) ≡ t → p < length db.statements
    tried true e = below_true _ _ e
    tried false e =
        let absent : Statement = record { at = 0; kind = 0; end = 0; hyps = []; pairs = []; symbols = []; label = []; text = [] } in
        let z : ◌≡◌ {A = ℕ} 0 5 = ap (λ (st : Statement). st.kind) (get_or_past db.statements p absent (below_false _ _ e)) ∙ k in
        absurd (omega arith)

pub answer-derived : (file : List ℕ) (p : ℕ) (room : Room) → Derived (database file) p (answer file p room)
unfolding answer judged answer_good pick
answer-derived file p room = by-verdict (verdict file) refl
  where
    by_kind : Facts (database file) → (t : Bool) → equal (statement_of (database file) p).kind 5 ≡ t
        → Derived (database file) p (pick t (ended (run (database file) p (limited room) (statement_of (database file) p).text)) not_provable)
    by_kind facts true e = run-derived (database file) p facts (there-is (database file) p (equal-true _ _ e)) (limited room) _
    by_kind facts false e = no_claim

    by-verdict : (v : Verdict) → verdict file ≡ v → Derived (database file) p (judged v (answer_good (database file) p room))
    by-verdict (Ok sizes) e = by_kind (good-facts file (good-answer file sizes.symbols sizes.statements e).0) _ refl
    by-verdict (Err away) e = no_file

-- an accepted answer holds a derivation of the claim
pub accepted-derives : (file : List ℕ) (p : ℕ) (room : Room) {place steps consumed : ℕ} {tree : Tree}
    → answer file p room ≡ accepted place steps consumed tree → Proves (database file) p tree
accepted-derives file p room e = held (rw e at (answer-derived file p room))
  where
    held : {db : Database} {q place steps consumed : ℕ} {tree : Tree} → Derived db q (accepted place steps consumed tree) → Proves db q tree
    held (derived d) = d

-- if the answer is 0, there is a derivation of the claim
pub zero-means-derivation : (file : List ℕ) (p : ℕ) (room : Room) → number (answer file p room) ≡ 0 → (tree : Tree) × Proves (database file) p tree
unfolding number
zero-means-derivation file p room e = by_answer (answer file p room) e (answer-derived file p room)
  where
    by_answer : (a : Answer) → number a ≡ 0 → Derived (database file) p a → (tree : Tree) × Proves (database file) p tree
    by_answer (accepted place steps consumed tree) z (derived d) = (tree, d)
    by_answer (refused why place steps) z d = absurd (omega (arith, refusal-number why))
    by_answer (turned_away why place) z d = absurd (omega (arith, file-number why))
    by_answer not_provable z d = absurd (omega arith)
