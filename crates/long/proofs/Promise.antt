-- The promise of the long-form call: no two outcomes keep it, and demand 3. What the caller reads as the text is the front of the output, as many bytes as the
-- place of the answer says.
use Prim.Native.Nat.{ℕ, ◌≤◌}
use mathlib.Core.Path.{◌≡◌, refl, sym, ◌∙◌, ap}
use mathlib.Core.Bool.{Bool, true, false}
use mathlib.Core.List.{List, []}
use lib.ListN.{length, take}
use Rattle.book.specs.Book.{Tree}
use Rattle.frames.specs.Logic.{below, pick}
use Rattle.frames.specs.Database.{Database, database, GoodFile}
use Rattle.frames.specs.Verdict.{laid}
use Rattle.frames.proofs.Tables.{laid-front}
use Rattle.machine.specs.Answer.{Answer, accepted, refused, turned_away, not_provable, number, refusal_number}
use Rattle.machine.specs.Bench.{answer}
use Rattle.machine.specs.Memory.{Room}
use Rattle.machine.specs.Promise.{Proves}
use Rattle.postorder.specs.LongForm.{long_text, fits, most_bytes, LongAnswer, nothing_written, written, entries_for, long_of, long_answer, with_proof}
use Rattle.postorder.specs.SameBut.{SameBut}
use Rattle.postorder.proofs.Comes.{pool_full, stack_full}
use Rattle.postorder.proofs.Again.{Again, again, lacking}
use Rattle.postorder.proofs.Answers.{zero-written}
use Rattle.postorder.proofs.LongForms.{Enough, AcceptedWith, demand-three}
use Rattle.told.specs.declared.Told.{Told}
use Rattle.bench.specs.Calls.{room_in, Verified}
use Rattle.long.specs.Calls.{SaysLong, WritesLongForm}

abbrev told : (number place steps : ℕ) → Told
told n p s = record { number = n; place = p; steps = s }

one-long-told : {a : LongAnswer} {output output' output₂ output₂' : List ℕ} {t u : Told} → SaysLong a output output' t → SaysLong a output₂ output₂' u → t ≡ u
one-long-told {t = t} {u = u} x y =
    let n : t.number ≡ u.number = x.number ∙ sym y.number in
    let p : t.place ≡ u.place = x.place ∙ sym y.place in
    let s : t.steps ≡ u.steps = x.steps ∙ sym y.steps in
    let whole : told t.number t.place t.steps ≡ told u.number u.place u.steps = cc in
    whole

-- what is lent to a call
pub record LongLent : Type 0 where
  pub pool : List ℕ
  pub stack : List ℕ
  pub places : List ℕ
  pub tree : List ℕ
  pub output : List ℕ

-- all that a caller has after the call
pub record LongOutcome : Type 0 where
  pub told : Told
  pub pool : List ℕ
  pub stack : List ℕ
  pub places : List ℕ
  pub tree : List ℕ
  pub output : List ℕ

abbrev outcome : Told → (pool stack places tree output : List ℕ) → LongOutcome
outcome t pool stack places tree output = record { told = t; pool = pool; stack = stack; places = places; tree = tree; output = output }

-- the outcome keeps the promise
abbrev pub Kept : List ℕ → ℕ → LongLent → LongOutcome → Type 0
Kept f p l x =
    WritesLongForm f p l.pool l.stack l.places l.tree l.output x.pool x.stack x.places x.tree x.output x.told

-- the definition's answer to a call
abbrev pub long : List ℕ → ℕ → LongLent → LongAnswer
long f p l = long_answer f p (room_in l.pool l.stack l.places) (length l.tree) (length l.output)

-- no two outcomes keep the promise
pub one-long-outcome : (f : List ℕ) (p : ℕ) (l : LongLent) (x y : LongOutcome) → Kept f p l x → Kept f p l y → x ≡ y
one-long-outcome f p l x y v w =
    let t = one-long-told v.says w.says in
    let a : x.pool ≡ y.pool = v.zeroed.pool_zero ∙ sym w.zeroed.pool_zero in
    let b : x.stack ≡ y.stack = v.zeroed.stack_zero ∙ sym w.zeroed.stack_zero in
    let c : x.places ≡ y.places = v.zeroed.places_zero ∙ sym w.zeroed.places_zero in
    let d : x.tree ≡ y.tree = v.tree_zero ∙ sym w.tree_zero in
    let e : x.output ≡ y.output = v.says.written ∙ sym w.says.written in
    let whole : outcome x.told x.pool x.stack x.places x.tree x.output ≡ outcome y.told y.pool y.stack y.places y.tree y.output = cc in
    whole

-- what is answered depends on how much is lent, and not on what it held
pub held-long-free : (f : List ℕ) (p : ℕ) (l l' : LongLent) (x y : LongOutcome) → room_in l.pool l.stack l.places ≡ room_in l'.pool l'.stack l'.places
    → length l.tree ≡ length l'.tree → length l.output ≡ length l'.output → Kept f p l x → Kept f p l' y → x.told ≡ y.told
held-long-free f p l l' x y room tree output v w =
    let same : long f p l ≡ long f p l' = cc in
    one-long-told (rw same at v.says) w.says

-- a refusal has no text
refusal-empty : (db : Database) (entries output : ℕ) (a : Answer) → ((long_of db entries output a).number ≡ 0 → ⊥) → (long_of db entries output a).text ≡ []
unfolding long_of nothing_written written pick
refusal-empty db entries output (accepted at completed consumed tree) some = tried (below entries (entries_for completed)) (fits db tree (most_bytes output)) some
  where
    tried : (t u : Bool)
        → ((pick t (nothing_written 60 at completed) (pick u (written completed (long_text db tree)) (nothing_written 61 at completed))).number ≡ 0 → ⊥)
        → (pick t (nothing_written 60 at completed) (pick u (written completed (long_text db tree)) (nothing_written 61 at completed))).text ≡ []
    tried true u n = refl
    tried false true n = absurd (n refl)
    tried false false n = refl
refusal-empty db entries output (refused why at completed) some = refl
refusal-empty db entries output (turned_away why at) some = refl
refusal-empty db entries output not_provable some = refl

laid-nothing : (xs output : List ℕ) → xs ≡ [] → laid xs output ≡ output
unfolding laid
laid-nothing xs output e = rw e

-- a refusal leaves the output as it was
pub refusal-untouched : (f : List ℕ) (p : ℕ) (l : LongLent) (x : LongOutcome) → Kept f p l x → (x.told.number ≡ 0 → ⊥) → x.output ≡ l.output
unfolding long_answer
refusal-untouched f p l x kept some =
    kept.says.written ∙ laid-nothing _ l.output (refusal-empty (database f) (length l.tree) (length l.output) _ (λ z. some (kept.says.number ∙ z)))

-- the text that the caller reads
unfoldable pub text_read : LongOutcome → List ℕ
text_read x = take x.told.place x.output

-- where the answer is 0, its place is the length of its text
zero-place : (f : List ℕ) (p : ℕ) (room : Room) (entries output : ℕ) → (long_answer f p room entries output).number ≡ 0
    → (long_answer f p room entries output).place ≡ length (long_answer f p room entries output).text
unfolding long_answer
zero-place f p room entries output z =
    let w = zero-written (database f) entries output (answer f p room) z in
    w.length_is ∙ sym (ap length w.text)

module _ (f : List ℕ) (p : ℕ) (l : LongLent) (x : LongOutcome) (kept : Kept f p l x) (zero : x.told.number ≡ 0) where
  zero_number : (long f p l).number ≡ 0
  zero_number = sym kept.says.number ∙ zero

  -- what is read is what the definition writes
  pub text-read : text_read x ≡ (long f p l).text
  unfolding text_read
  text-read =
      let size : x.told.place ≡ length (long f p l).text = kept.says.place ∙ zero-place f p _ _ _ zero_number in
      rw (size, kept.says.written) (laid-front (long f p l).text l.output)

-- demand 3, for two calls: the text that the first wrote, put into the old proof's place, is a good file whose database is the old one but for that text; its proof
-- is accepted for the same claim with the same derivation, or lacks room; and the second call writes the same text again, or says that room is lacking
pub record SameLongForm (f : List ℕ) (p : ℕ) (text : List ℕ) (first second : Answer) (again : LongOutcome) : Type 0 where
  pub derivation : Tree
  pub text_is : text ≡ long_text (database f) derivation
  pub proves : Proves (database f) p derivation
  pub accepts : AcceptedWith derivation first
  pub good : GoodFile (with_proof f p text)
  pub same : SameBut (database f) (database (with_proof f p text)) p text
  pub accepts_again : Again derivation second
  pub number : Enough again.told.number
  pub text_again : again.told.number ≡ 0 → text_read again ≡ text

pub long-form-again : (f : List ℕ) (p : ℕ) (l l' : LongLent) (x y : LongOutcome) → Kept f p l x → x.told.number ≡ 0 → length (with_proof f p (text_read x)) ≤ 1048576
    → Kept (with_proof f p (text_read x)) p l' y
    → SameLongForm f p (text_read x) (answer f p (room_in l.pool l.stack l.places))
    (answer (with_proof f p (text_read x)) p (room_in l'.pool l'.stack l'.places)) y
long-form-again f p l l' x y v zero whole w =
    let d = demand-three f p (room_in l.pool l.stack l.places) (room_in l'.pool l'.stack l'.places) (length l.tree) (length l.output)
    (length l'.tree) (length l'.output) (text_read x) (zero_number f p l x v zero) (sym (text-read f p l x v zero)) whole in
    record {
      derivation = d.derivation;
      text_is = d.text_is;
      proves = d.proves;
      accepts = d.accepts;
      good = d.good;
      same = d.same;
      accepts_again = d.accepts_again;
      number = rw w.says.number d.number;
      text_again = λ z. text-read (with_proof f p (text_read x)) p l' y w z ∙ d.text_again (sym w.says.number ∙ z);
    }

-- accepted, or room is lacking: 43, 45
pub data Holds : ℕ → Type 0 where
  holds : Holds 0
  no_pool : Holds 43
  no_stack : Holds 45

again-number : {tree : Tree} {a : Answer} → Again tree a → Holds (number a)
unfolding number refusal_number
again-number again = holds
again-number (lacking pool_full) = no_pool
again-number (lacking stack_full) = no_stack

-- and the call for one statement accepts the written text in the old proof's place, or says that room is lacking
pub verified-again : (f : List ℕ) (p : ℕ) (l : LongLent) (x : LongOutcome) (pool stack places pool' stack' places' : List ℕ) (t : Told) → Kept f p l x
    → x.told.number ≡ 0 → length (with_proof f p (text_read x)) ≤ 1048576
    → Verified (with_proof f p (text_read x)) p pool stack places pool' stack' places' t → Holds t.number
verified-again f p l x pool stack places pool' stack' places' t v zero whole w =
    let d = demand-three f p (room_in l.pool l.stack l.places) (room_in pool stack places) (length l.tree) (length l.output) 0 0 (text_read x)
    (zero_number f p l x v zero) (sym (text-read f p l x v zero)) whole in
    rw w.says.number (again-number d.accepts_again)
