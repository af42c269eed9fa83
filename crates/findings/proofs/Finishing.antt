-- The findings at the end of the text: the mode, then what is left on the stack.
use Rattle.std.proofs.Common.{Ok, Err}
use Rattle.std.specs.Result.{MatchResult}
use Prim.Native.Nat.{ℕ, ◌+◌, ◌≤◌, ◌<◌}
use mathlib.Core.Path.{◌≡◌, refl}
use mathlib.Core.Bool.{Bool, true, false}
use mathlib.Core.List.{List, [], ◌∷◌}
use native.Mathlib.Omega.{arith}
use lib.ListN.{length, get_or}
use Rattle.book.specs.Book.{Expression}
use Rattle.frames.specs.Logic.{no, equal, same}
use Rattle.frames.specs.Database.{database}
use Rattle.frames.proofs.Chains.{below-yes, below-no}
use Rattle.machine.specs.declared.Refusal.{Refusal}
use Rattle.machine.specs.declared.Refusal.TheVariants.{ProofUnterminatedRoster, ProofMalformedVarint, ProofWrongTypeEnd, ProofWrongExprEnd}
use Rattle.machine.specs.Chain.{Result, fine, stop, unless}
use Rattle.machine.specs.Ground.{expression_of}
use Rattle.machine.specs.Memory.{Proved, Entry, Memory}
use Rattle.machine.specs.Run as machine
use Rattle.tree.specs.Recorded.{Applications, Denotes, Held}
use Rattle.memory.specs.declared.Counts.{Counts}
use Rattle.memory.specs.Table.{word}
use Rattle.memory.specs.Shown.{Down, bottom, over, NodeShown, Shown}
use Rattle.machine.specs.Passed.{Passed}
use Rattle.ends.specs.End as ends
use Rattle.ends.specs.End.{EndsAs, ChecksEnd}
use Rattle.run.specs.declared.Mode.{Mode}
use Rattle.run.specs.declared.Mode.TheVariants.{Beginning, Normal, Roster, Letters}
use Rattle.run.specs.Running.{Env, Tables, bench_of, lent_of}
use Rattle.run.specs.Reads.{mode_of}
use Rattle.findings.specs.Answers.{Answer}
use Rattle.findings.specs.Tells.{Tells, accepts, refuses, ChecksMode, answer_of, Closes}

-- the mode at the end
pub mode-roster : {mode : Mode} → mode ≡ Roster → ChecksMode mode (Err ProofUnterminatedRoster)
unfolding machine.unfinished mode_of
mode-roster e =
    record {
      refuses = λ why q rest. let same : why ≡ ProofUnterminatedRoster = cc in rw (e, same) refl;
      passes = λ q rest. let z : ◌≡◌ {A = ℕ} 0 1 = cc in absurd (omega arith);
    }

pub mode-varint : {mode : Mode} {k : ℕ} {saves : Bool} → mode ≡ Letters k saves → 0 < k → ChecksMode mode (Err ProofMalformedVarint)
unfolding machine.unfinished mode_of unless
mode-varint e some =
    record {
      refuses = λ why q rest. let same : why ≡ ProofMalformedVarint = cc in rw (e, same, below-yes some) refl;
      passes = λ q rest. let z : ◌≡◌ {A = ℕ} 0 1 = cc in absurd (omega arith);
    }

pub mode-letters : {mode : Mode} {k : ℕ} {saves : Bool} → mode ≡ Letters k saves → k ≤ 0 → ChecksMode mode (Ok tt)
unfolding machine.unfinished mode_of unless
mode-letters {k = k} e none =
    record {
      refuses = λ why q rest. let z : ◌≡◌ {A = ℕ} 0 1 = cc in absurd (omega arith);
      passes = λ q rest. rw (e, below-no none) refl;
    }

pub mode-beginning : {mode : Mode} → mode ≡ Beginning → ChecksMode mode (Ok tt)
unfolding machine.unfinished mode_of
mode-beginning e =
    record { refuses = λ why q rest. let z : ◌≡◌ {A = ℕ} 0 1 = cc in absurd (omega arith); passes = λ q rest. rw e refl }

pub mode-normal : {mode : Mode} → mode ≡ Normal → ChecksMode mode (Ok tt)
unfolding machine.unfinished mode_of
mode-normal e =
    record { refuses = λ why q rest. let z : ◌≡◌ {A = ℕ} 0 1 = cc in absurd (omega arith); passes = λ q rest. rw e refl }

-- a result that is settled at the end
end_refused : {f entries : List ℕ} {why : Refusal} {r : Result Proved} {n steps : ℕ} (place : ℕ) (m : Memory) → r ≡ stop why → n ≡ steps
    → Tells f entries (machine.settle r place n (machine.accept place m)) (Err (record { why = why; place = place; steps = steps }))
unfolding machine.settle
end_refused place m e n = rw (e, n) refuses

end-as : {f entries : List ℕ} {r : Result Proved} {answer : Passed} {n steps word nodes : ℕ} (place : ℕ) (m : Memory) → nodes ≤ m.steps + m.consumed
    → ((x : Proved) → r ≡ fine x → nodes ≤ length entries → Held f entries nodes word x.tree) → EndsAs r answer → n ≡ steps → m.steps ≡ steps
    → Tells f entries (machine.settle r place n (machine.accept place m)) (answer_of answer place steps word nodes)
unfolding machine.settle machine.accept answer_of
end-as place m few held (ends.accepts {x}) n k = rw k (accepts (rw k at few) (held x refl))
end-as place m few held ends.refuses n k = rw n refuses

-- what is left on the stack is what was proved
claimed : {x y : Proved} (claim : Expression) → machine.is_claim claim x ≡ fine y → x ≡ y
unfolding machine.is_claim unless
claimed {x} {y} claim e = tried (no (equal x.expression.typecode claim.typecode)) (no (same x.expression.symbols claim.symbols)) e
  where
    tried : (t u : Bool) → unless t ProofWrongTypeEnd (unless u ProofWrongExprEnd (fine x)) ≡ fine y → x ≡ y
    tried true u q = let z : ◌≡◌ {A = ℕ} 0 1 = cc in absurd (omega arith)
    tried false true q = let z : ◌≡◌ {A = ℕ} 0 1 = cc in absurd (omega arith)
    tried false false q = cc

-- the word of the lowest row
only-denotes : {f : List ℕ} {kept : Applications} {stack : List ℕ} {n : ℕ} (es : List Entry) (claim : Expression) (x : Proved) → Down (NodeShown f kept stack) n es
    → machine.only_entry claim es ≡ fine x → Denotes f kept (get_or stack 5 0) x.tree
unfolding machine.only_entry word
only-denotes [] claim x d e = let z : ◌≡◌ {A = ℕ} 0 1 = cc in absurd (omega arith)
only-denotes (a ∷ []) claim x (over g p bottom) e = rw (← claimed claim e, ← p.at.node) p.denotes
only-denotes (a ∷ b ∷ es) claim x d e = let z : ◌≡◌ {A = ℕ} 0 1 = cc in absurd (omega arith)

module _ {f syms : List ℕ} {at : ℕ} {stack pool : List ℕ} {c : Counts} {mode : Mode} {place steps : ℕ} where
  pub closes-refused : {why : Refusal} → ChecksMode mode (Err why) → Closes f syms at stack pool c mode place steps (Err (record { why = why; place = place; steps = steps }))
  unfolding machine.finish
  closes-refused {why} checks =
      record { tells = λ e t m file-is stack_is pool-is filed loc n s. end_refused place m (checks.refuses why refl _) n }

  pub closes-end : {answer : Passed} {lowest : ℕ} → lowest ≡ get_or stack 5 0 → ChecksMode mode (Ok tt) → ChecksEnd f syms at stack pool c answer
      → Closes f syms at stack pool c mode place steps (answer_of answer place steps lowest c.nodes)
  unfolding machine.finish
  closes-end {answer} {lowest} word_is checks end =
      record {
        tells = λ e t m file-is stack_is pool-is filed loc n s.
            let judged = end.follows e.statements (bench_of e) (lent_of t) m file-is stack_is pool-is filed loc s in
            rw (checks.passes refl (machine.only_entry (expression_of (database f) e.asked) m.stack)) (end-as place m s.nodes_few (held e t m file-is stack_is s) judged n n);
      }
    where
      held : (e : Env) (t : Tables) (m : Memory) → e.file ≡ f → t.stack ≡ stack → Shown (bench_of e) (lent_of t) c m → (x : Proved)
          → machine.only_entry (expression_of (database f) e.asked) m.stack ≡ fine x → c.nodes ≤ length t.tree → Held f t.tree c.nodes lowest x.tree
      held e t m file-is stack_is s x is enough =
          let d = s.derivations enough in
          record {
            kept = d.kept;
            recorded = rw (← file-is) d.recorded;
            denotes = rw (word_is, ← stack_is, ← file-is) (only-denotes m.stack (expression_of (database f) e.asked) x d.on_stack is);
          }

-- the mode is judged first, and where it passes the end
module _ {f syms : List ℕ} {at : ℕ} {stack pool : List ℕ} {c : Counts} {mode : Mode} {place steps : ℕ} where
  pub closes-both : (first ended : Passed) {lowest : ℕ} → lowest ≡ get_or stack 5 0 → ChecksMode mode first
      → MatchResult first (λ x. ChecksEnd f syms at stack pool c ended) (λ why. ended ≡ Err why)
      → Closes f syms at stack pool c mode place steps (answer_of ended place steps lowest c.nodes)
  unfolding answer_of
  closes-both (Ok x) ended word_is checks then = closes-end word_is checks then
  closes-both (Err why) ended word_is checks then = rw then (closes-refused checks)

-- what is told of a state is told of the same state
pub tells-same : {f entries : List ℕ} {a b : machine.State} {answer : Answer} → a ≡ b → Tells f entries b answer → Tells f entries a answer
tells-same e x = rw e x
