-- What an answer promises: an acceptance stands for a derivation, and its place and steps are as the paper says; every place and every
-- count of steps is within the text. (That all answers keep it: proofs/Acceptance.antt, proofs/Counts.antt.)
use Rattle.std.specs.Prelude.{ℕ, suc, ◌≤◌, ◌≡◌}
use Rattle.book.specs.Book.{Tree, Derives}
use Rattle.frames.specs.Database.{Database}
use Rattle.machine.specs.declared.Refusal.{Refusal}
use Rattle.machine.specs.Answer.{Answer, accepted, refused, turned_away, not_provable}
use Rattle.machine.specs.Ground.{expression_of, ground}

-- statement p of the database is proved by the book's rules: the tree is a derivation of its claim from its own $e, the active $f and the
-- assertions before it, and keeps every mandatory pair
abbrev pub Proves : Database → ℕ → Tree → Type 0
Proves db p tree = Derives (ground db p) tree (expression_of db p)

-- an acceptance stands for the derivation that it holds
pub data Derived (db : Database) (p : ℕ) : Answer → Type 0 where
  derived : {place steps consumed : ℕ} {tree : Tree} → Proves db p tree → Derived db p (accepted place steps consumed tree)
  no_proof : {why : Refusal} {place steps : ℕ} → Derived db p (refused why place steps)
  no_file : {why : Rattle.frames.specs.declared.Refusal.Refusal} {place : ℕ} → Derived db p (turned_away why place)
  no_claim : Derived db p not_provable

-- the counts of an answer to a text of L bytes: an acceptance has the text's length as its place, and steps that are 1 + all
-- hypotheses consumed; no place and no count of steps is above L
pub data Counted (L : ℕ) : Answer → Type 0 where
  all_steps : {steps consumed : ℕ} {tree : Tree} → steps ≡ suc consumed → steps ≤ L → Counted L (accepted L steps consumed tree)
  some_steps : {why : Refusal} {place steps : ℕ} → place ≤ L → steps ≤ L → Counted L (refused why place steps)
