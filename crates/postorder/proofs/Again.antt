-- Accepted again: the long form of an accepted proof, run as a proof of the same statement in any room, is accepted with the same
-- derivation, or lacks room (43 or 45). No other refusal comes up, 44 and 46 among them.
use Prim.Native.Nat.{ℕ, ◌≤◌, ◌<◌}
use mathlib.Core.Path.{◌≡◌, refl}
use mathlib.Core.Bool.{Bool, true, false}
use mathlib.Core.List.{List, [], ◌∷◌}
use native.Mathlib.Omega.{arith}
use lib.ListN.{length}
use Rattle.book.specs.Book.{Tree}
use Rattle.frames.specs.Logic.{below, no, any}
use Rattle.frames.specs.Database.{Database}
use Rattle.frames.specs.Facts.{◌∈◌, Facts}
use Rattle.frames.proofs.Chains.{below-no, below_false, equal-yes}
use Rattle.frames.proofs.Found.{same_self}
use Rattle.machine.specs.declared.Refusal.{Refusal}
use Rattle.machine.specs.declared.Refusal.TheVariants.{BadByte, TooManyVariables}
use Rattle.machine.specs.Chain.{fine, unless}
use Rattle.machine.specs.Answer.{Answer, accepted, refused}
use Rattle.machine.specs.Ground.{expression_of}
use Rattle.machine.specs.Reading.{bad_byte}
use Rattle.machine.specs.Memory.{Room, Memory}
use Rattle.machine.specs.Run.{normal, Standing, State, over, settle, on_bytes, is_claim, only_entry, accept, unfinished, finish, on_end, first_variables, fresh, begin, admitted, start, run}
use Rattle.machine.specs.Bench.{ended}
use Rattle.machine.specs.Promise.{Proves, Derived, derived}
use Rattle.machine.proofs.Gives.{Stands, goes, ends}
use Rattle.machine.proofs.Every.{Every, none, also}
use Rattle.machine.proofs.Acceptance.{run-derived}
use Rattle.postorder.specs.LongForm.{post_order, joined, long_text}
use Rattle.postorder.proofs.Comes.{Lacks, Comes, comes}
use Rattle.postorder.proofs.OneText.{Numbered, derivation-numbered}
use Rattle.postorder.proofs.Few.{Once, none, all_once}
use Rattle.postorder.proofs.Entries.{plain}
use Rattle.postorder.proofs.Steps.{Within, After}
use Rattle.postorder.proofs.Trees.{run_all, Covered, proved, tree-runs}
use Rattle.postorder.proofs.Bytes.{good-text, first, stand, over-stays, labels-run}
use Rattle.postorder.proofs.Numbering.{NamedBy, named_by, run-named}

-- the answer to a long form: accepted with this tree, or a lack of room
pub data Again (tree : Tree) : Answer → Type 0 where
  again : {place steps consumed : ℕ} → Again tree (accepted place steps consumed tree)
  lacking : {why : Refusal} {place steps : ℕ} → Lacks why → Again tree (refused why place steps)

over-answers : {Q : Answer → Type 0} {s : State} → Stands (λ s'. ⊥) Q s → Q (ended s)
unfolding ended
over-answers (ends q) = q
over-answers (goes none') = absurd none'

module _ (db : Database) (p : ℕ) where
  firsts-once : Once (first_variables db p)
  unfolding first_variables
  firsts-once = all_once _ _ (all_once [] _ none)

  fresh-within : (vars : List ℕ) → ((v : ℕ) → v ∈ first_variables db p → v ∈ vars) → Within vars (fresh (first_variables db p))
  unfolding fresh
  fresh-within vars inside = record { once = firsts-once; each = inside }

  -- at the end the claim is left
  finishes : {S : Standing → Type 0} (tree : Tree) (m : Memory) (end : ℕ) → m.stack ≡ plain (proved (expression_of db p) tree) ∷ []
      → Stands S (Again tree) (finish db p end normal m)
  unfolding finish unfinished only_entry is_claim settle accept unless plain proved no
  finishes tree m end e = rw (e, equal-yes {a = (expression_of db p).typecode} refl, same_self (expression_of db p).symbols) (ends again)

  module _ (facts : Facts db) (there : p < length db.statements) (room : Room) where
    by-list : {vars : List ℕ} (tree : Tree) (vs : List ℕ) {ss : List ℕ} → Every (Numbered db facts) ss
        → Comes (After vars (proved (expression_of db p) tree) (fresh vs)) (run_all db p room ss (fresh vs))
        → Stands (λ s. ⊥) (Again tree) (on_end db p room (on_bytes db p room (begin (fresh vs)) (joined db ss)))
    unfolding joined run_all fresh begin stand
    by-list tree vs none (comes a) = let z : ◌≡◌ {A = ℕ} 0 1 = cc a.stack in absurd (omega arith)
    by-list tree vs (also {x} {xs} n ns) c =
        labels-run db p room (λ why at steps l. lacking l) facts x xs (fresh vs) 0 first n ns c (λ end m a. finishes tree m end a.stack)

    -- from variables that are few enough and cover the derivation
    pub derivation-again : (vars : List ℕ) → length vars ≤ 256 → length (first_variables db p) ≤ 256
        → ((v : ℕ) → v ∈ first_variables db p → v ∈ vars) → (tree : Tree) → Proves db p tree → Covered db vars (post_order tree)
        → Again tree (ended (run db p room (long_text db tree)))
    unfolding run start admitted long_text settle unless
    derivation-again vars few first-few inside tree d c =
        let numbers = derivation-numbered db facts p there tree d in
        rw (good-text db facts numbers, below-no {a = 256} {b = length (first_variables db p)} first-few)
        (over-answers
        (by-list {vars = vars} tree (first_variables db p) numbers (tree-runs db p facts there room vars few tree d c (fresh (first_variables db p)) (fresh-within vars inside))))

  -- an accepted run was admitted: no 257th variable at the start
  pub start-few : (room : Room) (text : List ℕ) (place steps consumed : ℕ) (tree : Tree)
      → ended (run db p room text) ≡ accepted place steps consumed tree → length (first_variables db p) ≤ 256
  unfolding run start admitted settle unless on_end ended
  start-few room text place steps consumed tree e = tried (any bad_byte text) (below 256 (length (first_variables db p))) refl e
    where
      never : (why : Refusal) → ended (on_end db p room (on_bytes db p room (over (refused why 0 0)) text)) ≡ accepted place steps consumed tree → ⊥
      never why q =
          let z : ◌≡◌ {A = ℕ} 0 1 = cc (over-stays db p room (refused why 0 0) text) in
          omega arith

      tried : (t u : Bool) → below 256 (length (first_variables db p)) ≡ u
          → ended (on_end db p room (on_bytes db p room (settle (unless t BadByte (unless u TooManyVariables (fine (fresh (first_variables db p))))) 0 0 begin) text))
          ≡ accepted place steps consumed tree
          → length (first_variables db p) ≤ 256
      tried true u b q = absurd (never BadByte q)
      tried false true b q = absurd (never TooManyVariables q)
      tried false false b q = below_false _ _ b

  -- the long form of an accepted proof, in any room
  pub accepted-again : Facts db → p < length db.statements → (room room' : Room) (text : List ℕ) (place steps consumed : ℕ) (tree : Tree)
      → ended (run db p room text) ≡ accepted place steps consumed tree → Again tree (ended (run db p room' (long_text db tree)))
  accepted-again facts there room room' text place steps consumed tree e =
      by_names (rw e at (run-named db p room text)) (derives (rw e at (run-derived db p facts there room text)))
    where
      derives : Derived db p (accepted place steps consumed tree) → Proves db p tree
      derives (derived d) = d

      by_names : NamedBy db p (accepted place steps consumed tree) → Proves db p tree → Again tree (ended (run db p room' (long_text db tree)))
      by_names (named_by vars few inside c) d =
          let l = start-few room text place steps consumed tree e in
          derivation-again facts there room' vars (few l) l inside tree d c
