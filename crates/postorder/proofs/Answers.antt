-- What the long-form call answers: the proof's refusal; else 60, 61 or success, each exactly when the paper says. The text that is written
-- is read off the derivation, which proves the claim by the book's rules.
use Prim.Native.Nat.{ℕ, ◌-◌, ◌*◌, ◌≤◌, ◌<◌, min}
use mathlib.Core.Path.{◌≡◌, refl, sym, ap, ◌∙◌}
use mathlib.Core.Bool.{Bool, true, false}
use mathlib.Core.List.{List}
use native.Mathlib.Omega.{arith}
use lib.ListN.{length}
use Rattle.book.specs.Book.{Tree}
use Rattle.frames.specs.Logic.{below, pick}
use Rattle.frames.specs.Database.{Database, database}
use Rattle.frames.specs.Facts.{Facts}
use Rattle.frames.proofs.Chains.{below-yes, below-no, at_most-yes, at_most-no}
use Rattle.machine.specs.Answer.{Answer, accepted, refused, turned_away, not_provable, number, place, steps}
use Rattle.machine.specs.Memory.{Room}
use Rattle.machine.specs.Run.{run}
use Rattle.machine.specs.Bench.{ended, answer}
use Rattle.machine.specs.Promise.{Proves}
use Rattle.machine.proofs.Numbers.{refusal-number, file-number}
use Rattle.machine.proofs.Acceptance.{accepted-derives}
use Rattle.postorder.specs.LongForm.{long_text, fits, LongAnswer, nothing_written, written, entries_for, most_bytes, long_of, long_answer}
use Rattle.postorder.proofs.Sizes.{fits-exactly}
use Rattle.postorder.proofs.Again.{Again, again, lacking, accepted-again}

-- the proof's own refusal, or 1 to 8, with its place and steps
pub refusal-answered : (db : Database) (entries output : ℕ) (a : Answer) → (number a ≡ 0 → ⊥)
    → long_of db entries output a ≡ nothing_written (number a) (place a) (steps a)
unfolding long_of number
refusal-answered db entries output (accepted at completed consumed tree) n = absurd (n refl)
refusal-answered db entries output (refused why at completed) n = refl
refusal-answered db entries output (turned_away why at) n = refl
refusal-answered db entries output not_provable n = refl

module _ (db : Database) (entries output at completed consumed : ℕ) (tree : Tree) where
  -- 60 where 2 x steps - 1 exceeds the tree entries
  pub tree-full : entries < 2 * completed - 1 → long_of db entries output (accepted at completed consumed tree) ≡ nothing_written 60 at completed
  unfolding long_of entries_for pick
  tree-full l = rw (below-yes l)

  -- else 61 where the text exceeds the output or 65,536 bytes
  pub long-full : 2 * completed - 1 ≤ entries → min output 65536 < length (long_text db tree)
      → long_of db entries output (accepted at completed consumed tree) ≡ nothing_written 61 at completed
  unfolding long_of entries_for most_bytes pick
  long-full l m = rw (below-no l, fits-exactly db tree (min output 65536), at_most-no m)

  -- else 0, the length written, the proof's steps, the text
  pub success : 2 * completed - 1 ≤ entries → length (long_text db tree) ≤ min output 65536
      → long_of db entries output (accepted at completed consumed tree) ≡ written completed (long_text db tree)
  unfolding long_of entries_for most_bytes pick
  success l m = rw (below-no l, fits-exactly db tree (min output 65536), at_most-yes m)

-- what is written where the answer is 0
pub record Written (db : Database) (a : Answer) (l : LongAnswer) : Type 0 where
  pub tree : Tree
  pub place : ℕ
  pub consumed : ℕ
  pub accepts : a ≡ accepted place l.steps consumed tree
  pub text : l.text ≡ long_text db tree
  pub length_is : l.place ≡ length (long_text db tree)

pub zero-written : (db : Database) (entries output : ℕ) (a : Answer) → (long_of db entries output a).number ≡ 0
    → Written db a (long_of db entries output a)
unfolding long_of nothing_written written pick number
zero-written db entries output (accepted at completed consumed tree) z =
    tried (below entries (entries_for completed)) (fits db tree (most_bytes output)) z
  where
    tried : (t u : Bool)
        → (pick t (nothing_written 60 at completed) (pick u (written completed (long_text db tree)) (nothing_written 61 at completed))).number ≡ 0
        → Written db (accepted at completed consumed tree)
        (pick t (nothing_written 60 at completed) (pick u (written completed (long_text db tree)) (nothing_written 61 at completed)))
    tried true u e = absurd (omega arith)
    tried false true e = record { tree = tree; place = at; consumed = consumed; accepts = refl; text = refl; length_is = refl }
    tried false false e = absurd (omega arith)
zero-written db entries output (refused why at completed) z = absurd (omega (arith, refusal-number why))
zero-written db entries output (turned_away why at) z = absurd (omega (arith, file-number why))
zero-written db entries output not_provable z = absurd (omega arith)

-- exactly one: for an accepted proof the text is that of its derivation, whatever the room, the entries and the output
pub one-long-form : (db : Database) (entries output at completed consumed : ℕ) (tree : Tree)
    → (long_of db entries output (accepted at completed consumed tree)).number ≡ 0
    → (long_of db entries output (accepted at completed consumed tree)).text ≡ long_text db tree
one-long-form db entries output at completed consumed tree z =
    same-tree (zero-written db entries output (accepted at completed consumed tree) z)
  where
    same-tree : {l : LongAnswer} → Written db (accepted at completed consumed tree) l → l.text ≡ long_text db tree
    same-tree w =
        let e = w.accepts in
        let same : tree ≡ w.tree = cc in
        w.text ∙ ap (λ (t : Tree). long_text db t) (sym same)

-- what is written is what was derived
pub written-derives : (file : List ℕ) (p : ℕ) (room : Room) (entries output : ℕ) → (long_answer file p room entries output).number ≡ 0
    → (tree : Tree) × Proves (database file) p tree × ((long_answer file p room entries output).text ≡ long_text (database file) tree)
unfolding long_answer
written-derives file p room entries output z =
    let w = zero-written (database file) entries output (answer file p room) z in
    (w.tree, accepted-derives file p room w.accepts, w.text)

-- its own long form: in the database the long form of an accepted proof has itself as its long form
pub own-long-form : (db : Database) (p : ℕ) → Facts db → p < length db.statements → (room room' : Room) (text : List ℕ)
    (place steps consumed : ℕ) (tree : Tree) → ended (run db p room text) ≡ accepted place steps consumed tree → (entries output : ℕ)
    → (long_of db entries output (ended (run db p room' (long_text db tree)))).number ≡ 0
    → (long_of db entries output (ended (run db p room' (long_text db tree)))).text ≡ long_text db tree
unfolding long_of nothing_written number
own-long-form db p facts there room room' text place steps consumed tree e entries output z =
    told (ended (run db p room' (long_text db tree))) (accepted-again db p facts there room room' text place steps consumed tree e) z
  where
    told : (a : Answer) → Again tree a → (long_of db entries output a).number ≡ 0 → (long_of db entries output a).text ≡ long_text db tree
    told _ (again {place} {steps} {consumed}) n = one-long-form db entries output place steps consumed tree n
    told _ (lacking {why} l) n = absurd (omega (arith, refusal-number why))
