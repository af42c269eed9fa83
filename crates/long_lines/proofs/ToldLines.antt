-- What the long-form call told and wrote, as a line: where it told 0, its place is the length of the text, which stands at the front of the output.
use Prim.Native.Nat.{ℕ, ◌≤◌, ◌<◌}
use mathlib.Core.Path.{◌≡◌, refl, sym, ◌∙◌, ap}
use mathlib.Core.Bool.{Bool, true, false}
use mathlib.Core.List.{List}
use native.Mathlib.Omega.{arith}
use lib.ListN.{length, get_or, take, drop, length-append}
use Rattle.frames.specs.Logic.{equal, pick}
use Rattle.frames.specs.Verdict.{laid, index}
use Rattle.frames.specs.Database.{Statement, Database, database, statement_at}
use Rattle.frames.specs.Facts.{statement_of}
use Rattle.frames.proofs.Chains.{equal-yes, equal-no, equal-true, pick_first, pick_second}
use Rattle.frames.proofs.Tables.{laid-front}
use Rattle.packed.specs.Pool.{Adds, Grown}
use Rattle.packed.proofs.Adding.{adds_same}
use Rattle.machine.specs.Answer.{Answer}
use Rattle.machine.specs.Bench.{answer, answer_good, judged}
use Rattle.machine.specs.Memory.{Room}
use Rattle.resolve.specs.Filed.{Filed}
use Rattle.postorder.specs.LongForm.{LongAnswer, long_of, long_answer}
use Rattle.postorder.proofs.Answers.{zero-written}
use Rattle.told.specs.declared.Told.{Told}
use Rattle.bench.specs.Calls.{room_in}
use Rattle.long.specs.Calls.{SaysLong}
use Rattle.reply.specs.Output.{greatest}
use Rattle.reply.proofs.LineLaws.{statement-is}
use Rattle.reply.proofs.Whole.{room-greatest}
use Rattle.long_lines.specs.LongLines.{text_line, refusal_line, line_for, long_line, long_line_of}
use Rattle.long_lines.specs.Writing.{Within}

-- the two cases of a line
pub text-told : (label : List ℕ) {n : ℕ} (p s : ℕ) (text : List ℕ) {out out' : List ℕ} {r : Grown} → n ≡ 0 → Adds (text_line label text) 0 (length out) out out' r
    → Adds (line_for label n p s text) 0 (length out) out out' r
unfolding line_for
text-told label p s text z a = adds_same (pick_first _ (equal-yes z) refl) a

pub refusal-told : (label : List ℕ) {n : ℕ} (p s : ℕ) (text : List ℕ) {out out' : List ℕ} {r : Grown} → (n ≡ 0 → ⊥)
    → Adds (refusal_line label n p s) 0 (length out) out out' r → Adds (line_for label n p s text) 0 (length out) out out' r
unfolding line_for
refusal-told label p s text z a = adds_same (pick_second _ (equal-no z) refl) a

-- the text matters only where the number is 0
line_same : (label : List ℕ) (n p s : ℕ) (text text' : List ℕ) → (n ≡ 0 → text ≡ text') → line_for label n p s text ≡ line_for label n p s text'
unfolding line_for pick
line_same label n p s text text' same = by (equal n 0) refl
  where
    by : (t : Bool) → equal n 0 ≡ t
        → pick t (text_line label text) (refusal_line label n p s) ≡ pick t (text_line label text') (refusal_line label n p s)
    by true e = ap (λ (x : List ℕ). text_line label x) (same (equal-true _ _ e))
    by false e = refl

laid-holds : (xs t : List ℕ) → length xs ≤ length (laid xs t)
unfolding laid
laid-holds xs t = omega (arith, length-append xs (drop (length xs) t))

-- an answer whose place is the length of its text where its number is 0
module _ {a : LongAnswer} (zero : a.number ≡ 0 → a.place ≡ length a.text) {output output' : List ℕ} {t : Told} (s : SaysLong a output output' t) where
  says-within : Within t output'
  says-within = record { within = λ z. few z }
    where
      few : t.number ≡ 0 → t.place ≤ length output'
      few z =
          let size = zero (sym s.number ∙ z) in
          let same = s.place in
          let l = ap length s.written in
          let m = laid-holds a.text output in
          omega arith

  says-line : (label : List ℕ) → line_for label t.number t.place t.steps (take t.place output') ≡ long_line label a
  unfolding long_line
  says-line label =
      rw (s.number, s.place, s.steps)
      (line_same label a.number a.place a.steps (take a.place output') a.text (λ z. rw (zero z, s.written) (laid-front a.text output)))

-- the long form's answer: where its number is 0, its place is the length of its text
long-zero : (db : Database) (entries output : ℕ) (x : Answer) → (long_of db entries output x).number ≡ 0
    → (long_of db entries output x).place ≡ length (long_of db entries output x).text
long-zero db entries output x z = let v = zero-written db entries output x z in v.length_is ∙ sym (ap length v.text)

pub told-within : (db : Database) (entries output : ℕ) (x : Answer) {text text' : List ℕ} {t : Told} → SaysLong (long_of db entries output x) text text' t
    → Within t text'
told-within db entries output x s = says-within (long-zero db entries output x) s

-- a checked file with the offsets of its statements
pub filed-listed : {f syms stmts : List ℕ} → Filed f syms stmts → Filed f (index f).symbols stmts
filed-listed w = record { good = w.good; symbols = refl; statements = w.statements }

-- statement p of a checked file, with the greatest sizes lent
module _ {f syms stmts : List ℕ} (w : Filed f syms stmts) (p : ℕ) where
  good-answer : (room : Room) → answer_good (database f) p room ≡ answer f p room
  unfolding answer judged
  good-answer room = rw w.good.is refl

  module _ (pool stack places text : List ℕ) (pool-size : length pool ≡ 65536) (stack-size : length stack ≡ 10240) (places-size : length places ≡ 40960)
      (text_size : length text ≡ 65536) where
    same_answer : long_of (database f) 131072 (length text) (answer_good (database f) p (room_in pool stack places)) ≡ long_answer f p greatest 131072 65536
    unfolding long_answer
    same_answer = rw (text_size, room-greatest pool stack places pool-size stack-size places-size, good-answer greatest) refl

    pub told_line : {text' : List ℕ} {t : Told} {at : ℕ} {label : List ℕ}
        → SaysLong (long_of (database f) 131072 (length text) (answer_good (database f) p (room_in pool stack places))) text text' t
        → p < length stmts → at ≡ get_or stmts p 0 → label ≡ (statement_at f at).label
        → line_for label t.number t.place t.steps (take t.place text') ≡ long_line_of f p
    unfolding long_line_of
    told_line {label = label} s there e is =
        let read = statement-is (filed-listed w) p there e in
        let named : label ≡ (statement_of (database f) p).label = is ∙ ap (λ (st : Statement). st.label) read in
        says-line (long-zero (database f) 131072 (length text) (answer_good (database f) p (room_in pool stack places))) s label ∙ rw (named, same_answer) refl
