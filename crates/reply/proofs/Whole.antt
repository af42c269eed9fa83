-- The whole reply: the answers that the walk laid, the verdict, and that the buffer always has room.
use Rattle.std.proofs.Common.{Some, None, Ok, Err}
use Rattle.std.specs.Option.{unwrap_or}
use Rattle.std.specs.Result.{result_unwrap_or}
use Prim.Native.Nat.{ℕ, ◌+◌, ◌≤◌, ◌<◌}
use mathlib.Core.Path.{◌≡◌, refl, sym, ◌∙◌, ap}
use mathlib.Core.List.{List}
use native.Mathlib.Omega.{arith}
use lib.ListN.{length, get_or, take, drop, length-take}
use lib.Seq.{take-append_seam, length-take-le}
use Rattle.io.specs.Counts.{IsPrefixLen}
use Rattle.frames.specs.Verdict.{verdict, laid, Checked, number_of, Verdict, Refused, Good}
use Rattle.frames.specs.Database.{database, GoodFile}
use Rattle.frames.specs.declared.Refusal.{Refusal}
use Rattle.frames.specs.declared.TurnedAway.{TurnedAway}
use Rattle.frames.proofs.Chains.{below-no, below-yes, pick_first, pick_second}
use Rattle.frames.proofs.Tables.{laid-length}
use Rattle.packed.specs.Pool.{written, Adds, Grown}
use Rattle.packed.proofs.Adding.{adds_same}
use Rattle.packed.proofs.Joining.{grown-of-to, grown-of-full}
use Rattle.machine.specs.Memory.{Room}
use Rattle.told.specs.Says.{room_lent}
use Rattle.bench.specs.Calls.{room_in}
use Rattle.bench.proofs.Checking.{filed}
use Rattle.verdict_text.specs.Text.{refused_line}
use Rattle.walk.specs.Walk.{Walked, provable, answer_word, answer_words, walked_of, laid_answers, WalksAll}
use Rattle.walk.proofs.Promise.{each-answer}
use Rattle.reply.specs.Output.{greatest, checked_text, text_of, output_of}
use Rattle.reply.specs.Replies.{Listed, Held, Counted}
use Rattle.reply.proofs.Lengths.{answers-few, output-few}

-- how many $p were answered, by the variant
pub counted : (walked : Walked) → Counted walked (result_unwrap_or walked 0)
counted (Ok n) = record { is = λ m e. let same : Ok n ≡ Ok m = e in cc }
counted (Err away) = record { is = λ m e. let z : ◌≡◌ {A = ℕ} 0 1 = cc in absurd (omega arith) }

-- the same by the case
pub counted-some : {walked : Walked} {n : ℕ} → walked ≡ Ok n → Counted walked n
counted-some {walked} {n} is = record { is = λ m e. let same : Ok n ≡ Ok m = sym is ∙ e in cc }

pub counted_none : {walked : Walked} {away : TurnedAway} → walked ≡ Err away → Counted walked 0
counted_none {walked} {away} is = record { is = λ m e. let z : ◌≡◌ {A = ℕ} 0 1 = cc in absurd (omega arith) }

-- the lent buffers have the greatest sizes
pub room-greatest : (pool stack places : List ℕ) → length pool ≡ 65536 → length stack ≡ 10240 → length places ≡ 40960 → room_in pool stack places ≡ greatest
unfolding room_lent greatest
room-greatest pool stack places p s q = rw (p, s, q) refl

module _ {f pool stack places answers pool' stack' places' answers' : List ℕ} {walked : Walked}
    (w : WalksAll f pool stack places answers pool' stack' places' answers' walked) (good : GoodFile f) where
  pub walk-counted : {r : ℕ} → Counted walked r → r ≡ length (provable (database f))
  unfolding walked_of
  walk-counted c = c.is _ (w.answered.counts ∙ rw good.is refl)

  pub walk-held : length pool ≡ 65536 → length stack ≡ 10240 → length places ≡ 40960 → length answers ≡ 4096 → Held f answers'
  unfolding laid_answers
  walk-held p s q a =
      let few = answers-few f good in
      let words = answer_words f (room_in pool stack places) in
      let is : answers' ≡ laid (take (length answers) words) answers = w.answered.lays ∙ rw good.is refl in
      let same = ap length is ∙ laid-length (take (length answers) words) answers (omega (arith, length-take (length answers) words)) in
      record {
        many = omega arith;
        each = λ i there. each-answer w good i there (omega arith) ∙ ap (λ (room : Room). answer_word f room (get_or (provable (database f)) i 0)) (room-greatest pool stack places p s q);
      }

-- a file that is turned away, and a good one
module _ {f syms stmts syms' stmts' : List ℕ} {v : Verdict} (ch : Checked f syms stmts syms' stmts' v) where
  pub text-refused : {why : Refusal} {at n : ℕ} {out out' : List ℕ} {r : Grown} → v ≡ Refused why at → n ≡ number_of why
      → Adds (refused_line n at) 0 (length out) out out' r → Adds (text_of (verdict f) f) 0 (length out) out out' r
  unfolding text_of
  text-refused {why} {at} is n a = adds_same (rw (sym ch.answers ∙ is) (ap (λ (k : ℕ). refused_line k at) n)) a

  pub text-good : {n k : ℕ} {out out' : List ℕ} {r : Grown} → v ≡ Good n k
      → Adds (checked_text f) 0 (length out) out out' r → Adds (text_of (verdict f) f) 0 (length out) out out' r
  unfolding text_of
  text-good is a = adds_same (rw (sym ch.answers ∙ is) refl) a

  pub listed : {n k : ℕ} → v ≡ Good n k → Listed f (take k stmts')
  listed is = let w = filed ch is in record { good = w.good; symbols = refl; statements = w.statements }

-- an input that is too long, and any other
pub output-long : (input : List ℕ) {out out' : List ℕ} {r : Grown} → 65536 < length input → Adds (refused_line 2 0) 0 (length out) out out' r
    → Adds (output_of input) 0 (length out) out out' r
unfolding output_of
output-long input long a = adds_same (pick_first _ (below-yes long) refl) a

pub output-other : (input : List ℕ) {out out' : List ℕ} {r : Grown} → length input ≤ 65536 → Adds (text_of (verdict input) input) 0 (length out) out out' r
    → Adds (output_of input) 0 (length out) out out' r
unfolding output_of
output-other input few a = adds_same (pick_second _ (below-no few) refl) a

-- what is written at the start stands there
written-front : (xs out : List ℕ) → take (length xs) (written xs 0 out) ≡ xs
unfolding written
written-front xs out = take-append_seam xs (drop (0 + length xs) out)

-- a text for which there is room stands at the start
module _ (text : List ℕ) {out out' : List ℕ} {r : Grown} (a : Adds text 0 (length out) out out' r) (few : length text ≤ length out) where
  pub stands-to : {n : ℕ} → r ≡ Some n → IsPrefixLen n out' × (take n out' ≡ text)
  stands-to {n} is =
      let said = grown-of-to (length text) 0 (length out) n (sym is ∙ a.answers) in
      let same = a.sized in
      let there : out' ≡ written text 0 out = a.holds (below-no (omega arith)) in
      let many : n ≡ length text = omega arith in
      let within : n ≤ length out' = omega arith in
      ((within, sym (length-take-le n out' within)), rw (there, many) (written-front text out))

  pub stands-full : r ≡ None → IsPrefixLen 0 out' × (take 0 out' ≡ text)
  stands-full is = let over = grown-of-full (length text) 0 (length out) (sym is ∙ a.answers) in absurd (omega arith)

  -- in either case what is counted is the text
  pub stands : IsPrefixLen (unwrap_or r 0) out' × (take (unwrap_or r 0) out' ≡ text)
  stands = by r refl
    where
      by : (x : Grown) → r ≡ x → IsPrefixLen (unwrap_or x 0) out' × (take (unwrap_or x 0) out' ≡ text)
      by (Some n) is = stands-to is
      by None is = stands-full is

-- there is always room
module _ (input : List ℕ) {out out' : List ℕ} {r : Grown} (a : Adds (output_of input) 0 (length out) out out' r) (size : 524352 ≤ length out) where
  pub replies : IsPrefixLen (unwrap_or r 0) out' × (take (unwrap_or r 0) out' ≡ output_of input)
  replies = stands (output_of input) a (omega (arith, output-few input))
