-- One statement: whether it is a $p, and its line from the word of its answer.
use Prim.Native.Nat.{ℕ, ◌<◌}
use mathlib.Core.Path.{◌≡◌, refl, ◌∙◌, ap}
use mathlib.Core.List.{List}
use native.Mathlib.Omega.{arith}
use lib.ListN.{length, get_or}
use Rattle.frames.specs.Database.{Statement, database, statement_at}
use Rattle.frames.specs.Facts.{statement_of}
use Rattle.machine.specs.Answer.{number, place, steps}
use Rattle.machine.specs.Bench.{answer}
use Rattle.answers.specs.Packed.{packed_answer, number_in, place_in, steps_in}
use Rattle.answers.proofs.Unpacking.{number-back, place-back, steps_back}
use Rattle.resolve.proofs.Filing.{filed-length, filed-statement}
use Rattle.bench.proofs.Small.{answer-small}
use Rattle.lines.specs.Lines.{answer_line}
use Rattle.walk.specs.Walk.{word_of, answer_word}
use Rattle.reply.specs.Output.{greatest, line_for, proof_line}
use Rattle.reply.specs.Replies.{Listed}

-- what is read back from the word of an answer
module _ (f : List ℕ) (p : ℕ) {word : ℕ} (is : word ≡ answer_word f greatest p) where
  word-packed : word ≡ packed_answer (number (answer f p greatest)) (place (answer f p greatest)) (steps (answer f p greatest))
  unfolding answer_word word_of
  word-packed = is

  number_read : number_in word ≡ number (answer f p greatest)
  number_read = let s = answer-small f p greatest in ap number_in word-packed ∙ number-back _ _ _ s.number_small s.place_small

  place_read : place_in word ≡ place (answer f p greatest)
  place_read = let s = answer-small f p greatest in ap place_in word-packed ∙ place-back _ _ _ s.number_small s.place_small

  steps-read : steps_in word ≡ steps (answer f p greatest)
  steps-read = let s = answer-small f p greatest in ap steps_in word-packed ∙ steps_back _ _ _ s.number_small s.place_small

module _ {f stmts : List ℕ} (w : Listed f stmts) (p : ℕ) (there : p < length stmts) where
  pub statement-is : {at : ℕ} → at ≡ get_or stmts p 0 → statement_at f at ≡ statement_of (database f) p
  statement-is e = ap (statement_at f) e ∙ filed-statement w p (omega (arith, filed-length w))

  pub kind-is : {at k : ℕ} → at ≡ get_or stmts p 0 → k ≡ (statement_at f at).kind → k ≡ (statement_of (database f) p).kind
  kind-is e k = k ∙ ap (λ (st : Statement). st.kind) (statement-is e)

  -- the line of a $p, from its label and the word of its answer
  pub line-is : {at word n q s : ℕ} {label : List ℕ} → at ≡ get_or stmts p 0 → label ≡ (statement_at f at).label → word ≡ answer_word f greatest p
      → n ≡ number_in word → q ≡ place_in word → s ≡ steps_in word → answer_line label n q s ≡ proof_line f p
  unfolding proof_line line_for
  line-is e l is n q s =
      rw (l ∙ ap (λ (st : Statement). st.label) (statement-is e), n ∙ number_read f p is, q ∙ place_read f p is, s ∙ steps-read f p is) refl
