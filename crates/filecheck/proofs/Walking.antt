-- The invariant of the walk over a file's records: what the definition makes of the records from here on, with what has been
-- read, is what it makes of the whole file. The laws say that it holds at the start, after a good record, and what follows
-- from it at a fault and at the end.
use Rattle.std.proofs.Common.{Some, None}
use Prim.Native.Nat.{ℕ, zero, suc, ◌+◌, ◌≤◌, ◌<◌}
use mathlib.Core.Path.{◌≡◌, refl, sym, ap, ◌∙◌}
use mathlib.Core.Bool.{true, false}
use mathlib.Core.List.{List}
use native.Mathlib.Numerals.{add-one}
use native.Mathlib.Omega.{arith}
use lib.ListN.{length, take}
use Rattle.frames.specs.Logic.{equal}
use Rattle.frames.specs.Layout.{kind_at, next_at, is_statement}
use Rattle.frames.specs.Verdict.{Index, nothing, fault_at, after, refusal, end_verdict, at_end, decided, walk, outcome, verdict, index, laid, Checked, Fault, Verdict, Refused}
use Rattle.filecheck.specs.Walk.{Advanced}
use Rattle.frames.specs.declared.Refusal.{Refusal}
use Rattle.frames.specs.declared.Refusal.TheVariants.{TooMany}
use Rattle.filecheck.specs.declared.Walk.{Walk}
use Rattle.frames.proofs.Chains.{pick_first, pick_second, below-yes, below-no, at_most-yes, at_most-no, equal-true}
use Rattle.frames.proofs.Fine.{fine-next, fine-moves, fine-symbol-room, fine-statement-room}
use Rattle.frames.proofs.Tables.{laid-front, laid-length, laid-pick, count-pick, few-pick}

pub record Walking (f syms stmts syms' stmts' : List ℕ) (st : Walk) : Type 0 where
  pub ix : Index
  pub fuel : ℕ
  pub symbols_are : st.symbols ≡ length ix.symbols
  pub statements_are : st.statements ≡ length ix.statements
  pub owed_is : st.owed ≡ ix.owed
  pub few_symbols : length ix.symbols ≤ 4096
  pub few_statements : length ix.statements ≤ 4096
  pub symbols_laid : syms' ≡ laid ix.symbols syms
  pub statements_laid : stmts' ≡ laid ix.statements stmts
  pub inside : st.at ≤ length f
  pub enough : length f ≤ fuel + st.at
  pub is : walk (suc fuel) f ix st.at ≡ outcome f

-- a file that is not too long is walked from its first record
pub outcome-walk : (f : List ℕ) → length f ≤ 1048576 → walk (suc (length f)) f nothing 0 ≡ outcome f
unfolding outcome
outcome-walk f h = pick_second (refusal TooMany 0 nothing) (below-no h) (ap (λ k. walk k f nothing 0) (sym (add-one (length f))))

pub walking-none : (f syms stmts : List ℕ) → length f ≤ 1048576
    → Walking f syms stmts syms stmts (record { at = 0; symbols = 0; statements = 0; owed = false })
unfolding nothing laid
walking-none f syms stmts h =
    record {
      ix = nothing;
      fuel = length f;
      symbols_are = refl;
      statements_are = refl;
      owed_is = refl;
      few_symbols = omega arith;
      few_statements = omega arith;
      symbols_laid = refl;
      statements_laid = refl;
      inside = omega arith;
      enough = omega arith;
      is = outcome-walk f h;
    }

-- the definition at the end of the file, and at a record
walk_end : (k : ℕ) (f : List ℕ) (ix : Index) (o : ℕ) → length f ≤ o → at_end f ix ≡ walk (suc k) f ix o
unfolding walk
walk_end k f ix o h = pick_first _ (at_most-yes h) refl

walk-record : (k : ℕ) (f : List ℕ) (ix : Index) (o : ℕ) → o < length f
    → decided (fault_at f ix.symbols ix.statements ix.owed o) o ix (walk k f (after f ix o) (next_at f o)) ≡ walk (suc k) f ix o
unfolding walk
walk-record k f ix o h = pick_second _ (at_most-no h) refl

-- one record less is left
lower : (fuel len at next : ℕ) → len ≤ fuel + at → at + 6 ≤ next → next ≤ len → (k : ℕ) × (fuel ≡ suc k) × (len ≤ k + next)
lower zero len at next a b c = absurd (omega arith)
lower (suc k) len at next a b c = (k, refl, omega arith)

module _ (f syms stmts syms' stmts' : List ℕ) (st : Walk) (w : Walking f syms stmts syms' stmts' st) where
  -- the part of each table that is in use
  pub symbols-front : take st.symbols syms' ≡ w.ix.symbols
  symbols-front = rw (w.symbols_are, w.symbols_laid) (laid-front w.ix.symbols syms)

  pub statements-front : take st.statements stmts' ≡ w.ix.statements
  statements-front = rw (w.statements_are, w.statements_laid) (laid-front w.ix.statements stmts)

  pub symbols-length : 4096 ≤ length syms → length syms' ≡ length syms
  symbols-length h = let k = w.few_symbols in ap length w.symbols_laid ∙ laid-length w.ix.symbols syms (omega arith)

  pub statements-length : 4096 ≤ length stmts → length stmts' ≡ length stmts
  statements-length h = let k = w.few_statements in ap length w.statements_laid ∙ laid-length w.ix.statements stmts (omega arith)

  -- what is wrong with the record here, by the tables and by the index
  pub fault-here : {x : Fault} → x ≡ fault_at f (take st.symbols syms') (take st.statements stmts') st.owed st.at
      → x ≡ fault_at f w.ix.symbols w.ix.statements w.ix.owed st.at
  fault-here e = rw (symbols-front, statements-front, w.owed_is) at e

  -- the outcome is settled where the walk is
  settled : (v : Verdict) → walk (suc w.fuel) f w.ix st.at ≡ record { verdict = v; index = w.ix } → Checked f syms stmts syms' stmts' v
  unfolding verdict index
  settled v e =
      let o : outcome f ≡ record { verdict = v; index = w.ix } = sym w.is ∙ e in
      record {
        answers = ap (λ x. x.verdict) (sym o);
        symbols_laid = w.symbols_laid ∙ ap (λ x. laid x.index.symbols syms) (sym o);
        statements_laid = w.statements_laid ∙ ap (λ x. laid x.index.statements stmts) (sym o);
      }

  pub walking-ends : length f ≤ st.at → (v : Verdict) → v ≡ end_verdict st.owed (length f) st.symbols st.statements
      → Checked f syms stmts syms' stmts' v
  unfolding at_end
  walking-ends h v e =
      let g : v ≡ end_verdict w.ix.owed (length f) (length w.ix.symbols) (length w.ix.statements)
      = rw (w.owed_is, w.symbols_are, w.statements_are) at e in
      settled v (sym (walk_end w.fuel f w.ix st.at h) ∙ ap (λ x. record { verdict = x; index = w.ix }) (sym g))

  pub walking-stops : st.at < length f → (why : Refusal)
      → Some why ≡ fault_at f (take st.symbols syms') (take st.statements stmts') st.owed st.at
      → Checked f syms stmts syms' stmts' (Refused why st.at)
  unfolding decided refusal
  walking-stops h why e =
      let rest = walk w.fuel f (after f w.ix st.at) (next_at f st.at) in
      settled (Refused why st.at)
      (sym (walk-record w.fuel f w.ix st.at h) ∙ ap (λ x. decided x st.at w.ix rest) (sym (fault-here e)))

  -- a good record ends inside the file, past its kind
  pub next-inside : None ≡ fault_at f (take st.symbols syms') (take st.statements stmts') st.owed st.at
      → next_at f st.at ≤ length f
  next-inside e = fine-next f w.ix.symbols w.ix.statements w.ix.owed st.at (sym (fault-here e))

  pub next-further : None ≡ fault_at f (take st.symbols syms') (take st.statements stmts') st.owed st.at
      → st.at + 6 ≤ next_at f st.at
  next-further e = fine-moves f w.ix.symbols w.ix.statements w.ix.owed st.at (sym (fault-here e))

  -- a good record is passed
  pub walking-more : 4096 ≤ length syms → 4096 ≤ length stmts → st.at < length f
      → None ≡ fault_at f (take st.symbols syms') (take st.statements stmts') st.owed st.at
      → (syms'' stmts'' : List ℕ) (st' : Walk) → Advanced f syms' stmts' st syms'' stmts'' st' → Walking f syms stmts syms'' stmts'' st'
  unfolding after decided
  walking-more hs ht h e syms'' stmts'' st' a =
      let g : fault_at f w.ix.symbols w.ix.statements w.ix.owed st.at ≡ None = sym (fault-here e) in
      let next = next-inside e in
      let moves = next-further e in
      let room_s : equal (kind_at f st.at) 1 ≡ true → length w.ix.symbols < 4096
      = λ b. fine-symbol-room f w.ix.symbols w.ix.statements w.ix.owed st.at g (equal-true (kind_at f st.at) 1 b) in
      let room_t : is_statement (kind_at f st.at) ≡ true → length w.ix.statements < 4096
      = fine-statement-room f w.ix.symbols w.ix.statements w.ix.owed st.at g in
      let r = lower w.fuel (length f) st.at (next_at f st.at) w.enough moves next in
      record {
        ix = after f w.ix st.at;
        fuel = r.0;
        symbols_are = a.symbols_counted ∙ rw w.symbols_are (count-pick (equal (kind_at f st.at) 1) w.ix.symbols st.at);
        statements_are =
            a.statements_counted ∙ rw w.statements_are (count-pick (is_statement (kind_at f st.at)) w.ix.statements st.at);
        owed_is = a.owed_now;
        few_symbols = few-pick (equal (kind_at f st.at) 1) w.ix.symbols st.at room_s w.few_symbols;
        few_statements = few-pick (is_statement (kind_at f st.at)) w.ix.statements st.at room_t w.few_statements;
        symbols_laid =
            a.symbols_laid
            ∙ rw (w.symbols_are, w.symbols_laid)
            (laid-pick (equal (kind_at f st.at) 1) w.ix.symbols syms st.at (λ b. let l = room_s b in omega arith));
        statements_laid =
            a.statements_laid
            ∙ rw (w.statements_are, w.statements_laid)
            (laid-pick (is_statement (kind_at f st.at)) w.ix.statements stmts st.at (λ b. let l = room_t b in omega arith));
        inside = rw a.at_next next;
        enough = rw a.at_next r.2;
        is =
            rw a.at_next
            (ap (λ k. walk k f (after f w.ix st.at) (next_at f st.at)) (sym r.1)
            ∙ ap (λ x. decided x st.at w.ix (walk w.fuel f (after f w.ix st.at) (next_at f st.at))) (sym g)
            ∙ walk-record w.fuel f w.ix st.at h
            ∙ w.is);
      }

-- a file that is too long is refused before its first record
pub too_long : (f syms stmts : List ℕ) → 1048576 < length f → Checked f syms stmts syms stmts (Refused TooMany 0)
unfolding verdict index outcome refusal laid nothing
too_long f syms stmts h =
    let o : refusal TooMany 0 nothing ≡ outcome f = pick_first _ (below-yes h) refl in
    record {
      answers = ap (λ x. x.verdict) o;
      symbols_laid = ap (λ x. laid x.index.symbols syms) o;
      statements_laid = ap (λ x. laid x.index.statements stmts) o;
    }
