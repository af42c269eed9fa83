-- The local label of a normal step: what is laid, what is saved, and which result of the definition the answer is.
use Rattle.std.specs.Prelude.{ℕ, ◌+◌, ◌<◌, ◌≡◌, List, length, Ok, Err}
use Rattle.std.proofs.Math.Option.{some}
use Rattle.machine.specs.Memory.{Memory, give_local}
use Rattle.packed.specs.Pool.{range}
use Rattle.resolve.specs.Locals.{AddsLocal}
use Rattle.memory.specs.declared.Counts.{Counts}
use Rattle.memory.specs.Outcome.{Outcome}
use Rattle.memory.specs.Shown.{Bench, Lent, lent, Shown, Ends, SavesTop}

-- one more local label, with the next place, where the table has room for it
pub record LaysLocal (locals : List ℕ) (c : Counts) (from to : ℕ) (locals' : List ℕ) : Type 0 where
  pub sized : length locals' ≡ length locals
  pub lays : c.locals < 4096 → AddsLocal locals c.locals from to c.places locals'

-- the counts with so many local labels
abbrev pub with_locals : Counts → ℕ → Counts
with_locals c n = record { used = c.used; count = c.count; places = c.places; locals = n; depth = c.depth; nodes = c.nodes }

-- an outcome that goes on with n local labels
unfoldable pub labelled : ℕ → Outcome → Outcome
labelled n (Ok c) = Ok (with_locals c n)
labelled n (Err why) = Err why

-- the top is saved, and there is one more local label
pub record SavesLabelled (stack places : List ℕ) (c : Counts) (limit : ℕ) (places' : List ℕ) (answer : Outcome) : Type 0 where
  pub saved : Outcome
  pub saves : SavesTop stack places c limit places' saved
  pub is : answer ≡ labelled (c.locals + 1) saved

-- the tables with these local labels and these places
abbrev pub with_labelled : Lent → List ℕ → List ℕ → Lent
with_labelled l locals places = lent l.numbers l.pool l.stack places locals l.tree

-- the local label from `from` up to `to` in the text is given as the definition gives it
pub record GivesLocal (text : List ℕ) (from to : ℕ) (stack locals places : List ℕ) (c : Counts) (limit : ℕ) (locals' places' : List ℕ) (answer : Outcome) : Type 0 where
  pub follows : (b : Bench) (l : Lent) (m : Memory) → b.text ≡ text → b.room.places ≡ limit → l.stack ≡ stack → l.locals ≡ locals → l.places ≡ places
      → Shown b l c m → Ends (Shown b (with_labelled l locals' places')) (give_local b.room m (some (range from to text))) answer
