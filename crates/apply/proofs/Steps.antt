-- A step of an assertion, part by part.
use Rattle.std.proofs.Common.{Ok, Err}
use Prim.Native.Nat.{ℕ, ◌+◌, ◌-◌, ◌≤◌, ◌<◌}
use mathlib.Core.Path.{◌≡◌, refl, sym, ◌∙◌, ap}
use mathlib.Core.Bool.{true, false}
use mathlib.Core.Logic.{◌⊎◌, inl, inr}
use mathlib.Core.List.Memᴰ
use mathlib.Core.List.{List, map, reverse}
use native.Mathlib.Omega.{arith}
use lib.ListN.{length, get_or, take, length-reverse}
use lib.Seq.{length-take-le}
use Rattle.frames.specs.Logic.{below}
use Rattle.frames.specs.Database.{Statement, Database, database, statement_at}
use Rattle.frames.specs.Facts.{◌∈◌, statement_of}
use Rattle.frames.proofs.Chains.{no-of-true, no-of-false, below-yes, below-no}
use Rattle.facts.proofs.GoodFacts.{good-facts}
use Rattle.machine.specs.declared.Refusal.{Refusal}
use Rattle.machine.specs.declared.Refusal.TheVariants.{ProofUnderflow, ProofDvViolation}
use Rattle.machine.specs.Memory.{Proved, Entry, Memory}
use Rattle.machine.specs.Apply.{label_of, bound, apply_assertion, assign_entries, run_prepared}
use Rattle.machine.specs.Run.{members, first_variables}
use Rattle.packed.specs.Lists.{Located}
use Rattle.resolve.specs.Filed.{Filed}
use Rattle.resolve.specs.Resolve.{Applicable}
use Rattle.resolve.proofs.Filing.{located-statement, filed-located}
use Rattle.disjoint.specs.Disjoint.{Tabled, Keeps}
use Rattle.disjoint.proofs.Tabling.{tabled-grown}
use Rattle.memory.specs.declared.Counts.{Counts}
use Rattle.memory.specs.declared.Limits.{Limits}
use Rattle.memory.specs.Outcome.{Outcome}
use Rattle.memory.specs.Shown.{bench, lent, Extends, Along, EntryShown, Shown, refuses}
use Rattle.memory.proofs.Showing.{along-map, down-length, down-take, shown-noted}
use Rattle.memory.proofs.Ending.{ends_by, ends-stop, ends-skip}
use Rattle.machine.specs.Passed.{Passed}
use Rattle.seats.specs.Seats.{MarkShown, SeatShown, judged, Seating, Seats}
use Rattle.seats.proofs.Seating.{nth-shown}
use Rattle.recording.specs.declared.Noted.{Noted}
use Rattle.recording.specs.Notes.{Notes}
use Rattle.apply.proofs.Noted.{nth-few, records-step}
use Rattle.apply.specs.Claim.{Finalizes}
use Rattle.apply.specs.Hyps.{Ranged, processed, SeatMeans, ProcessesHyps}
use Rattle.apply.specs.Step.{Under, AppliesChecked, AppliesSeated, Executes}

-- the table has the pairs for all variables that are numbered by now
under-now : {f : List ℕ} {p : ℕ} {table vs : List ℕ} → Under f p table → Extends (first_variables (database f) p) vs
    → Tabled (statement_of (database f) p).pairs vs table × ((v : ℕ) → v ∈ members (statement_of (database f) p).pairs → v ∈ vs)
under-now u e = (rw e.is (tabled-grown _ u.known u.tabled), λ v i. rw e.is (Memᴰ.append_left e.more (u.known v i)))

module _ {f syms stmts : List ℕ} {at : ℕ} {table froms tos sets pool stack : List ℕ} {c : Counts} {limits : Limits} {left tag end word nodes : ℕ} where
  pub checked-kept : {pool' stack' : List ℕ} {answer : Outcome} → Keeps f stmts at sets table true
      → Finalizes f syms at froms tos sets pool stack c limits left tag end word nodes pool' stack' answer
      → AppliesChecked f syms stmts at table froms tos sets pool stack c limits left tag end word nodes pool' stack' answer
  checked-kept keeps final =
      record {
        grows = final.grows;
        pool_sized = final.pool_sized;
        follows = λ p text numbers places locals tree a σ xs h m filed loc asserts under images depth s records.
            let u = under-now under s.begun in
            let few = s.variables_few in
            let n = s.numbered.counts in
            ends-skip ProofDvViolation
            (no-of-true (sym (keeps.tells syms a p σ m.variables filed loc (omega arith) u.0 u.1 (λ v i. (images v i).numbers) (λ v w i j var. (images v i).known w j var))))
            (final.follows stmts p text numbers places locals tree a σ xs h m filed loc asserts images depth s records);
      }

  pub checked-broken : Keeps f stmts at sets table false → AppliesChecked f syms stmts at table froms tos sets pool stack c limits left tag end word nodes pool stack (Err ProofDvViolation)
  checked-broken keeps =
      record {
        grows = λ c' e. let z : ◌≡◌ {A = ℕ} 0 1 = cc in absurd (omega arith);
        pool_sized = refl;
        follows = λ p text numbers places locals tree a σ xs h m filed loc asserts under images depth s records.
            let u = under-now under s.begun in
            let few = s.variables_few in
            let n = s.numbered.counts in
            ends-stop _
            (no-of-false (sym (keeps.tells syms a p σ m.variables filed loc (omega arith) u.0 u.1 (λ v i. (images v i).numbers) (λ v w i j var. (images v i).known w j var))));
      }

  module _ {seats froms' tos' sets' : List ℕ} where
    -- a hypothesis is not as it must be
    pub seated-refused : {why : Refusal} → ProcessesHyps f syms stmts at stack left seats c.used froms tos sets pool froms' tos' sets' (Err why)
        → AppliesSeated f syms stmts at table seats froms tos sets pool stack c limits left tag end word nodes froms' tos' sets' pool stack (Err why)
    unfolding apply_assertion processed
    seated-refused p =
        record {
          ranged = p.ranged;
          froms_sized = p.froms_sized;
          tos_sized = p.tos_sized;
          sets_sized = p.sets_sized;
          grows = λ c' e. let z : ◌≡◌ {A = ℕ} 0 1 = cc in absurd (omega arith);
          follows = λ q text numbers places locals tree a xs m asserts under x y z seated depth s records.
              ends_by (p.checks a xs m.variables _ seated x y z) refl refuses;
        }

    -- the hypotheses are as they must be
    pub seated-fine : {pool' stack' : List ℕ} {answer : Outcome} → ProcessesHyps f syms stmts at stack left seats c.used froms tos sets pool froms' tos' sets' (Ok tt)
        → AppliesChecked f syms stmts at table froms' tos' sets' pool stack c limits left tag end word nodes pool' stack' answer
        → AppliesSeated f syms stmts at table seats froms tos sets pool stack c limits left tag end word nodes froms' tos' sets' pool' stack' answer
    unfolding apply_assertion processed
    seated-fine p checked =
        record {
          ranged = p.ranged;
          froms_sized = p.froms_sized;
          tos_sized = p.tos_sized;
          sets_sized = p.sets_sized;
          grows = checked.grows;
          follows = λ q text numbers places locals tree a xs m asserts under x y z seated depth s records.
              ends_by (p.checks a xs m.variables _ seated x y z) refl
              (checked.follows q text numbers places locals tree a (bound (database f) (statement_of (database f) a).hyps xs) xs (length (statement_of (database f) a).hyps) m seated.filed seated.located
              asserts under (p.images a xs m.variables seated x y z refl) depth s records);
        }

-- the entries of the stack in their seats
module _ {db : Database} {vs pool : List ℕ} {used : ℕ} {text stack : List ℕ} {left : ℕ} {es : List Entry} (there : Along (EntryShown db vs pool used text stack) left es) where
  marks-shown : Along (MarkShown text stack) left es
  marks-shown = along-map (left + length es) (omega arith) (λ k e l p. record { is = rw (sym p.at.tag, sym p.at.end) p.mark }) there

  seats-mean : {seats : List ℕ} {xs : List Proved} → length es ≤ 64 → Along (SeatShown es seats) 0 xs → Along (SeatMeans db vs pool used stack left seats) 0 xs
  seats-mean {seats} {xs} few a =
      along-map (length xs) (omega arith)
      (λ j x l p.
      let e = nth-shown there p.nth in
      let i = nth-few p.nth in
      record { few = omega arith; row = e.row; at = e.at; means = rw p.is e.means })
      a

module _ (f syms stmts : List ℕ) (a at n : ℕ) (at-is : at ≡ get_or stmts a 0) (n-is : n ≡ length (statement_at f at).hyps) (p : ℕ) (filed : Filed f syms stmts)
    (asked : p < length (database f).statements) (can : Applicable (database f) p a) where
  located : Located f a at
  located = rw at-is (filed-located filed a (let e = can.earlier in omega arith))

  counted : n ≡ length (statement_of (database f) a).hyps
  counted = n-is ∙ ap (λ (st : Statement). length st.hyps) (sym (located-statement located))

  asserts : 4 ≤ (statement_of (database f) a).kind
  asserts = by can.kind
    where
      by : ((statement_of (database f) a).kind ≡ 4) ⊎ ((statement_of (database f) a).kind ≡ 5) → 4 ≤ (statement_of (database f) a).kind
      by (inl e) = omega arith
      by (inr e) = omega arith

  few-hyps : n ≤ 64
  few-hyps =
      let few = ((good-facts f filed.good).statement a located.there).hyps_few in
      let k = counted in
      omega arith

  module _ (text numbers pool stack places locals tree : List ℕ) (c : Counts) (limits : Limits) (m : Memory)
      (s : Shown (bench f syms stmts p limits text) (lent numbers pool stack places locals tree) c m) where
    short : c.depth < n → below (length m.stack) (length (statement_of (database f) a).hyps) ≡ true
    short few = let k = counted in let d = down-length s.stack in below-yes (omega arith)

    module _ (enough : n ≤ c.depth) where
      there-are : Along (EntryShown (database f) m.variables pool c.used text stack) (c.depth - n) (reverse (take (length (statement_of (database f) a).hyps) m.stack))
      there-are = down-take (length (statement_of (database f) a).hyps) (c.depth - n) (let k = counted in omega arith) s.stack

      as_many : length (reverse (take (length (statement_of (database f) a).hyps) m.stack)) ≡ n
      as_many =
          let k = counted in
          let d = down-length s.stack in
          length-reverse (take (length (statement_of (database f) a).hyps) m.stack) ∙ (length-take-le (length (statement_of (database f) a).hyps) m.stack (omega arith) ∙ sym k)

      seating : {seats : List ℕ} {answer : Passed} → Seats f stmts at text stack (c.depth - n) n seats answer
          → Seating (map (label_of (database f)) (statement_of (database f) a).hyps) (reverse (take (length (statement_of (database f) a).hyps) m.stack)) n seats answer
      seating seat = seat.follows syms a _ filed located counted as_many (marks-shown there-are)

      passed : below (length m.stack) (length (statement_of (database f) a).hyps) ≡ false
      passed = let k = counted in let d = down-length s.stack in below-no (omega arith)

module _ {f syms stmts : List ℕ} {a at n : ℕ} {text table froms tos sets pool stack tree : List ℕ} {c : Counts} {limits : Limits} {tag end : ℕ} (at-is : at ≡ get_or stmts a 0)
    (n-is : n ≡ length (statement_at f at).hyps) where
  -- too few entries
  pub executes-underflow : Ranged froms tos c.used → c.depth < n → Executes f syms stmts a text table froms tos sets pool stack tree c limits tag end froms tos sets pool stack tree (Err ProofUnderflow)
  unfolding run_prepared
  executes-underflow r few =
      record {
        ranged = r;
        froms_sized = refl;
        tos_sized = refl;
        sets_sized = refl;
        tree_sized = refl;
        grows = λ c' e. let z : ◌≡◌ {A = ℕ} 0 1 = cc in absurd (omega arith);
        follows = λ p numbers places locals m filed asked can under x y z s.
            ends-stop _ (short f syms stmts a at n at-is n-is p filed asked can text numbers pool stack places locals tree c limits m s few);
      }

  -- a checked file lists at most 64 hypotheses
  pub executes-never : Ranged froms tos c.used → 64 < n → Executes f syms stmts a text table froms tos sets pool stack tree c limits tag end froms tos sets pool stack tree (Err ProofUnderflow)
  executes-never r many =
      record {
        ranged = r;
        froms_sized = refl;
        tos_sized = refl;
        sets_sized = refl;
        tree_sized = refl;
        grows = λ c' e. let z : ◌≡◌ {A = ℕ} 0 1 = cc in absurd (omega arith);
        follows = λ p numbers places locals m filed asked can under x y z s.
            let few = few-hyps f syms stmts a at n at-is n-is p filed asked can in
            absurd (omega arith);
      }

  module _ (enough : n ≤ c.depth) (small : n ≤ 64) {seats : List ℕ} where
    -- a mark is wrong
    pub executes-refused : {why : Refusal} → Ranged froms tos c.used → Seats f stmts at text stack (c.depth - n) n seats (Err why)
        → Executes f syms stmts a text table froms tos sets pool stack tree c limits tag end froms tos sets pool stack tree (Err why)
    unfolding run_prepared assign_entries judged
    executes-refused r seat =
        record {
          ranged = r;
          froms_sized = refl;
          tos_sized = refl;
          sets_sized = refl;
          tree_sized = refl;
          grows = λ c' e. let z : ◌≡◌ {A = ℕ} 0 1 = cc in absurd (omega arith);
          follows = λ p numbers places locals m filed asked can under x y z s.
              ends-skip ProofUnderflow (passed f syms stmts a at n at-is n-is p filed asked can text numbers pool stack places locals tree c limits m s enough)
              (ends_by ((seating f syms stmts a at n at-is n-is p filed asked can text numbers pool stack places locals tree c limits m s enough seat).checks _) refl refuses);
        }

    -- each hypothesis has its entry
    pub executes-seated : {froms' tos' sets' pool' stack' tree' : List ℕ} {noted : Noted} {answer : Outcome} → Seats f stmts at text stack (c.depth - n) n seats (Ok tt)
        → Notes at stack (c.depth - n) seats n tree c.nodes tree' noted
        → AppliesSeated f syms stmts at table seats froms tos sets pool stack c limits (c.depth - n) tag end noted.word noted.nodes froms' tos' sets' pool' stack' answer
        → Executes f syms stmts a text table froms tos sets pool stack tree c limits tag end froms' tos' sets' pool' stack' tree' answer
    unfolding run_prepared assign_entries judged
    executes-seated {tree' = tree'} seat notes applied =
        record {
          ranged = applied.ranged;
          froms_sized = applied.froms_sized;
          tos_sized = applied.tos_sized;
          sets_sized = applied.sets_sized;
          tree_sized = notes.sized;
          grows = applied.grows;
          follows = λ p numbers places locals m filed asked can under x y z s.
              let st = seating f syms stmts a at n at-is n-is p filed asked can text numbers pool stack places locals tree c limits m s enough seat in
              let k = counted f syms stmts a at n at-is n-is p filed asked can in
              let many = as_many f syms stmts a at n at-is n-is p filed asked can text numbers pool stack places locals tree c limits m s enough in
              ends-skip ProofUnderflow (passed f syms stmts a at n at-is n-is p filed asked can text numbers pool stack places locals tree c limits m s enough)
              (ends_by (st.checks _) refl
              (applied.follows p text numbers places locals tree' a _ m (asserts f syms stmts a at n at-is n-is p filed asked can) under x y z
              (record {
                filed = filed;
                located = located f syms stmts a at n at-is n-is p filed asked can;
                many = st.sized refl ∙ k;
                shown = seats-mean (there-are f syms stmts a at n at-is n-is p filed asked can text numbers pool stack places locals tree c limits m s enough) (omega arith) (st.holds refl);
              })
              (omega arith) (shown-noted s tree' notes.sized notes.same)
              (records-step m.stack (located f syms stmts a at n at-is n-is p filed asked can) notes k enough small _ (λ kept d. down-take (length (statement_of (database f) a).hyps) (c.depth - n) (omega arith) d) (st.sized refl) many (st.holds refl))));
        }
