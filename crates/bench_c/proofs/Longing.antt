-- Every answer of the long-form call fits into one number, and no two outcomes keep what it promises.
use Prim.Native.Nat.{ℕ, ◌≤◌, ◌<◌, min}
use mathlib.Core.Path.{◌≡◌, refl, sym, ◌∙◌, ap}
use mathlib.Core.Bool.{Bool, true, false}
use mathlib.Core.List.{List}
use native.Mathlib.Omega.{arith}
use lib.ListN.{length}
use Rattle.book.specs.Book.{Tree}
use Rattle.frames.specs.Logic.{below, at_most, pick}
use Rattle.frames.specs.Database.{Database, database}
use Rattle.frames.proofs.Chains.{at_most-true}
use Rattle.machine.specs.Answer.{Answer, accepted, refused, turned_away, not_provable, number, place, steps}
use Rattle.machine.specs.Bench.{answer}
use Rattle.postorder.specs.LongForm.{LongAnswer, long_text, fits, nothing_written, written, entries_for, most_bytes, long_of, long_answer}
use Rattle.postorder.proofs.Sizes.{fits-exactly}
use Rattle.answers.specs.Packed.{packed_answer}
use Rattle.told.specs.declared.Told.{Told}
use Rattle.bench.specs.Calls.{room_in}
use Rattle.bench.proofs.Small.{Small, answer-small}
use Rattle.long.specs.Calls.{WritesLongForm}
use Rattle.bench_c.specs.Words.{long_word, LongWord}

-- number, place and steps are small
abbrev Few : LongAnswer → Type 0
Few a = (a.number < 256) × ((a.place < 16777216) × (a.steps < 4294967296))

nothing-few : (n at done : ℕ) → n < 256 → at < 16777216 → done < 4294967296 → Few (nothing_written n at done)
unfolding nothing_written
nothing-few n at done a b c = (a, (b, c))

written-few : (done : ℕ) (text : List ℕ) → length text ≤ 65536 → done < 4294967296 → Few (written done text)
unfolding written
written-few done text a b = (omega arith, (omega arith, b))

long-few : (db : Database) (entries output : ℕ) (a : Answer) → Small a → Few (long_of db entries output a)
unfolding long_of pick place steps most_bytes
long-few db entries output (accepted at done consumed tree) s = tried (below entries (entries_for done)) (fits db tree (min output 65536)) refl
  where
    tried : (t u : Bool) → fits db tree (min output 65536) ≡ u
        → Few (pick t (nothing_written 60 at done) (pick u (written done (long_text db tree)) (nothing_written 61 at done)))
    tried true u e = nothing-few 60 at done (omega arith) s.place_small s.steps_small
    tried false true e = let l = at_most-true _ _ (sym (fits-exactly db tree (min output 65536)) ∙ e) in written-few done (long_text db tree) (omega arith) s.steps_small
    tried false false e = nothing-few 61 at done (omega arith) s.place_small s.steps_small
long-few db entries output (refused why at done) s = nothing-few _ _ _ s.number_small s.place_small s.steps_small
long-few db entries output (turned_away why at) s = nothing-few _ _ _ s.number_small s.place_small s.steps_small
long-few db entries output not_provable s = nothing-few _ _ _ s.number_small s.place_small s.steps_small

module _ {f : List ℕ} {p : ℕ} {pool stack places tree output pool' stack' places' tree' output' : List ℕ} {t : Told}
    (w : WritesLongForm f p pool stack places tree output pool' stack' places' tree' output' t) where
  pub long-small : (t.number < 256) × ((t.place < 16777216) × (t.steps < 4294967296))
  unfolding long_answer
  long-small =
      let s = long-few (database f) (length tree) (length output) (answer f p (room_in pool stack places)) (answer-small f p (room_in pool stack places)) in
      (rw w.says.number s.0, (rw w.says.place s.1.0, rw w.says.steps s.1.1))

  pub long-word : {word : ℕ} → word ≡ packed_answer t.number t.place t.steps
      → LongWord f p pool stack places tree output pool' stack' places' tree' output' word
  unfolding long_word
  long-word is =
      record {
        answers = is ∙ rw (w.says.number, w.says.place, w.says.steps) refl;
        written = w.says.written;
        zeroed = w.zeroed;
        tree_zero = w.tree_zero;
      }

-- no two outcomes keep the promise
pub one-long-word : {f : List ℕ} {p : ℕ} {pool stack places tree output a b c d e a₂ b₂ c₂ d₂ e₂ : List ℕ} {v w : ℕ} → LongWord f p pool stack places tree output a b c d e v
    → LongWord f p pool stack places tree output a₂ b₂ c₂ d₂ e₂ w → (v ≡ w) × ((a ≡ a₂) × ((b ≡ b₂) × ((c ≡ c₂) × ((d ≡ d₂) × (e ≡ e₂)))))
one-long-word x y = (
  x.answers ∙ sym y.answers,
  (
    x.zeroed.pool_zero ∙ sym y.zeroed.pool_zero,
    (
      x.zeroed.stack_zero ∙ sym y.zeroed.stack_zero,
      (x.zeroed.places_zero ∙ sym y.zeroed.places_zero, (x.tree_zero ∙ sym y.tree_zero, x.written ∙ sym y.written)),
    ),
  ),
)
