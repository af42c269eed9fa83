-- One statement of a checked file: where its record and its proof lie, and what is answered where it is no $p.
use Prim.Native.Nat.{ℕ, ◌≤◌, ◌<◌}
use mathlib.Core.Path.{◌≡◌, refl, sym, ◌∙◌, ap}
use mathlib.Core.List.{List}
use native.Mathlib.Omega.{arith}
use lib.ListN.{length, get_or, get_or-eq_default}
use Rattle.frames.specs.Layout.{next_at}
use Rattle.frames.specs.Database.{Statement, database, statement_at}
use Rattle.frames.specs.Facts.{statement_of}
use Rattle.frames.proofs.Chains.{pick_first, pick_second, equal-yes, equal-no}
use Rattle.facts.proofs.GoodFacts.{good-facts, good-file-facts}
use Rattle.machine.specs.Answer.{Answer, not_provable, number, place, steps}
use Rattle.machine.specs.Bench.{answer_good, ended}
use Rattle.machine.specs.Memory.{Room, limited}
use Rattle.machine.specs.Run.{run}
use Rattle.resolve.specs.Filed.{Filed}
use Rattle.resolve.proofs.Filing.{filed-length, filed-statement, filed-located}
use Rattle.told.specs.declared.Told.{Told}
use Rattle.told.specs.Says.{Says}

not-provable : Says not_provable (record { number = 8; place = 0; steps = 0 })
unfolding number place steps
not-provable = record { number = refl; place = refl; steps = refl }

says_same : {a b : Answer} {t : Told} → a ≡ b → Says a t → Says b t
says_same e s = rw e at s

module _ {f syms stmts : List ℕ} (w : Filed f syms stmts) (p : ℕ) where
  beyond-kind : length stmts ≤ p → (statement_of (database f) p).kind ≡ 0
  unfolding statement_of
  beyond-kind past =
      let l = filed-length w in
      ap (λ (st : Statement). st.kind) (get_or-eq_default (database f).statements _ (omega arith))

  no_proof : (room : Room) → ((statement_of (database f) p).kind ≡ 5 → ⊥) → answer_good (database f) p room ≡ not_provable
  unfolding answer_good
  no_proof room other = sym (pick_second _ (equal-no other) refl)

  -- there is no statement p
  pub beyond-says : (room : Room) → length stmts ≤ p → Says (answer_good (database f) p room) (record { number = 8; place = 0; steps = 0 })
  beyond-says room past =
      let z = beyond-kind past in
      says_same (sym (no_proof room (λ k. omega arith))) not-provable

  module _ {at : ℕ} (there : p < length stmts) (is : at ≡ get_or stmts p 0) where
    inside : p < length (database f).statements
    inside = let l = filed-length w in omega arith

    statement-is : statement_at f at ≡ statement_of (database f) p
    statement-is = ap (statement_at f) is ∙ filed-statement w p inside

    -- the record that follows the statement lies within the file
    pub next_small : next_at f at < 4294967296
    next_small =
        let facts = good-file-facts f w.good in
        let within = facts.statement_within p inside in
        let small = facts.size in
        let o : at ≡ (statement_of (database f) p).at = is ∙ (filed-located w p inside).offset in
        let same : next_at f at ≡ next_at f (statement_of (database f) p).at = ap (next_at f) o in
        omega arith

    kind-is : {k : ℕ} → k ≡ (statement_at f at).kind → k ≡ (statement_of (database f) p).kind
    kind-is e = e ∙ ap (λ (st : Statement). st.kind) statement-is

    -- statement p is no $p
    pub other-says : {k : ℕ} (room : Room) → k ≡ (statement_at f at).kind → (k ≡ 5 → ⊥)
        → Says (answer_good (database f) p room) (record { number = 8; place = 0; steps = 0 })
    other-says room e other = says_same (sym (no_proof room (λ five. other (kind-is e ∙ five)))) not-provable

    module _ {text : List ℕ} (has : text ≡ (statement_at f at).text) where
      text_is : text ≡ (statement_of (database f) p).text
      text_is = has ∙ ap (λ (st : Statement). st.text) statement-is

      -- statement p is a $p
      module _ {k : ℕ} (e : k ≡ (statement_at f at).kind) (five : k ≡ 5) where
        pub text_few : length text ≤ 65536
        text_few =
            let size = ((good-facts f w.good).statement p inside).text_size (sym (kind-is e) ∙ five) in
            rw (sym text_is) at size

        -- the answer is that of the run
        pub proof-run : (room : Room) → ended (run (database f) p (limited room) text) ≡ answer_good (database f) p room
        unfolding answer_good
        proof-run room =
            ap (λ (x : List ℕ). ended (run (database f) p (limited room) x)) text_is ∙ pick_first _ (equal-yes (sym (kind-is e) ∙ five)) refl

        pub proof-answers : {t : Told} (room : Room) → Says (ended (run (database f) p (limited room) text)) t
            → Says (answer_good (database f) p room) t
        proof-answers room s = says_same (proof-run room) s
