-- One statement more: a $p with room for its answer, a $p without, and a statement that is no $p.
use Prim.Native.Nat.{ℕ, ◌+◌, ◌≤◌, ◌<◌}
use mathlib.Core.Path.{◌≡◌, refl, sym, ◌∙◌, ap}
use mathlib.Core.List.{List}
use native.Mathlib.Omega.{arith}
use lib.ListN.{length, get_or, set}
use Rattle.frames.specs.Database.{Statement, database, statement_at}
use Rattle.frames.specs.Facts.{statement_of}
use Rattle.frames.proofs.Chains.{pick_first, pick_second, equal-yes, equal-no, below-yes, below-no, both_first, both-second}
use Rattle.machine.specs.Bench.{answer, answer_good, judged}
use Rattle.machine.specs.Memory.{Room}
use Rattle.answers.specs.Packed.{packed_answer}
use Rattle.resolve.specs.Filed.{Filed}
use Rattle.resolve.proofs.Filing.{filed-length, filed-statement}
use Rattle.told.specs.declared.Told.{Told}
use Rattle.told.specs.Says.{Says}
use Rattle.bench.proofs.Small.{answer-small}
use Rattle.walk.specs.Walk.{word_of, answer_word, NextAnswered}

module _ {f syms stmts : List ℕ} (w : Filed f syms stmts) where
  -- a good file: the answer is that of the run
  good-answered : (p : ℕ) (room : Room) → answer f p room ≡ answer_good (database f) p room
  unfolding answer judged
  good-answered p room = rw w.good.is refl

  -- number, place and steps fit into one number
  pub told-small : (p : ℕ) (room : Room) {t : Told} → Says (answer_good (database f) p room) t
      → (t.number < 256) × ((t.place < 16777216) × (t.steps < 4294967296))
  told-small p room says =
      let s = answer-small f p room in
      let e = good-answered p room in
      let n = s.number_small in
      let q = s.place_small in
      let m = s.steps_small in
      (rw says.number (rw e at n), (rw says.place (rw e at q), rw says.steps (rw e at m)))

  word_is : (p : ℕ) (room : Room) {t : Told} {word : ℕ} → Says (answer_good (database f) p room) t
      → word ≡ packed_answer t.number t.place t.steps → word ≡ answer_word f room p
  unfolding answer_word word_of
  word_is p room says is = rw (good-answered p room) (is ∙ rw (says.number, says.place, says.steps) refl)

  module _ {at k p : ℕ} (there : p < length stmts) (is : at ≡ get_or stmts p 0) (kind : k ≡ (statement_at f at).kind) where
    kind-is : k ≡ (statement_of (database f) p).kind
    kind-is =
        kind ∙ ap (λ (o : ℕ). (statement_at f o).kind) is
        ∙ ap (λ (st : Statement). st.kind) (filed-statement w p (let l = filed-length w in omega arith))

    module _ {count : ℕ} {answers : List ℕ} {room : Room} where
      -- a $p with room for its answer
      pub next-laid : {t : Told} {word : ℕ} → k ≡ 5 → count < length answers → Says (answer_good (database f) p room) t
          → word ≡ packed_answer t.number t.place t.steps → NextAnswered f room p count answers (set answers count word) (count + 1)
      next-laid five fits says is =
          let yes = equal-yes (sym kind-is ∙ five) in
          record {
            counts = pick_first _ yes refl;
            lays = pick_first _ (sym (both-second yes (sym (below-yes fits)))) (ap (set answers count) (word_is p room says is));
          }

      -- a $p without
      pub next-full : k ≡ 5 → length answers ≤ count → NextAnswered f room p count answers answers (count + 1)
      next-full five past =
          let yes = equal-yes (sym kind-is ∙ five) in
          record {
            counts = pick_first _ yes refl;
            lays = pick_second _ (sym (both-second yes (sym (below-no past)))) refl;
          }

      -- no $p
      pub next-other : (k ≡ 5 → ⊥) → NextAnswered f room p count answers answers count
      next-other other =
          let nope = equal-no (λ (e : (statement_of (database f) p).kind ≡ 5). other (kind-is ∙ e)) in
          record { counts = pick_second _ nope refl; lays = pick_second _ (sym (both_first _ nope refl)) refl }
