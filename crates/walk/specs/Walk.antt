-- The walk over all $p of a file: what it answers, and where the answers are laid.
use Rattle.std.specs.Prelude.{ℕ, zero, suc, ◌+◌, ◌≡◌, List, [], map, length, take, set, Result, Ok, Err}
use Rattle.bitset.specs.Sets.{keep}
use Rattle.frames.specs.Logic.{equal, below, both, pick}
use Rattle.frames.specs.Verdict.{verdict, laid, Verdict}
use Rattle.frames.specs.Database.{Database, database}
use Rattle.frames.specs.Facts.{statement_of}
use Rattle.frames.specs.declared.TurnedAway.{TurnedAway}
use Rattle.machine.specs.Answer.{Answer, number, place, steps}
use Rattle.machine.specs.Bench.{answer}
use Rattle.machine.specs.Memory.{Room}
use Rattle.answers.specs.Packed.{packed_answer}
use Rattle.bench.specs.Calls.{room_in, Zeroed}

-- how many $p are answered, or why and where the file is turned away
abbrev pub Walked : Type 0
Walked = Result ℕ TurnedAway

-- the numbers of the $p among the k statements from n on, in file order
unfoldable pub provable_from : Database → ℕ → ℕ → List ℕ
provable_from db zero n = []
provable_from db (suc k) n = keep (equal (statement_of db n).kind 5) n (provable_from db k (n + 1))

-- the numbers of all $p, in file order
unfoldable pub provable : Database → List ℕ
provable db = provable_from db (length db.statements) 0

-- an answer as one number
unfoldable pub word_of : Answer → ℕ
word_of a = packed_answer (number a) (place a) (steps a)

-- the answer that the call for one statement gives, as one number
unfoldable pub answer_word : List ℕ → Room → ℕ → ℕ
answer_word f room p = word_of (answer f p room)

-- the answers to all $p, in file order
unfoldable pub answer_words : List ℕ → Room → List ℕ
answer_words f room = map (answer_word f room) (provable (database f))

-- a good file: how many $p it has; a file that is turned away: why and where
unfoldable pub walked_of : Verdict → Database → Walked
walked_of (Ok sizes) db = Ok (length (provable db))
walked_of (Err away) db = Err away

-- the answers at the front of what was lent for them, as many as there is room for; nothing where the file is turned away
unfoldable pub laid_answers : Verdict → (words answers : List ℕ) → List ℕ
laid_answers (Ok sizes) words answers = laid (take (length answers) words) answers
laid_answers (Err away) words answers = answers

-- each $p is answered as the call for one statement answers it
pub record WalksFile (f : List ℕ) (room : Room) (answers answers' : List ℕ) (walked : Walked) : Type 0 where
  pub counts : walked ≡ walked_of (verdict f) (database f)
  pub lays : answers' ≡ laid_answers (verdict f) (answer_words f room) answers

-- the walk: all $p are answered, and nothing is left in what was lent
pub record WalksAll (f pool stack places answers pool' stack' places' answers' : List ℕ) (walked : Walked) : Type 0 where
  pub answered : WalksFile f (room_in pool stack places) answers answers' walked
  pub zeroed : Zeroed pool stack places pool' stack' places'

-- one statement more: where it is a $p, its answer is laid at `count`, if there is room, and it is counted
pub record NextAnswered (f : List ℕ) (room : Room) (p count : ℕ) (answers answers' : List ℕ) (r : ℕ) : Type 0 where
  pub counts : r ≡ pick (equal (statement_of (database f) p).kind 5) (count + 1) count
  pub lays : answers' ≡ pick (both (equal (statement_of (database f) p).kind 5) (below count (length answers))) (set answers count (answer_word f room p)) answers

-- all statements of a checked file
pub record AllAnswered (f : List ℕ) (room : Room) (answers answers' : List ℕ) (r : ℕ) : Type 0 where
  pub counts : r ≡ length (provable (database f))
  pub lays : answers' ≡ laid (take (length answers) (answer_words f room)) answers
