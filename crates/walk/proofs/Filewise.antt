-- The walk over a file that is turned away, and over a good one.
use Rattle.std.proofs.Common.{Ok}
use Prim.Native.Nat.{ℕ}
use mathlib.Core.Path.{◌≡◌, refl, sym, ◌∙◌, ap}
use mathlib.Core.List.{List}
use Rattle.frames.specs.Verdict.{Checked, Verdict, Refused, Good}
use Rattle.frames.specs.declared.Refusal.{Refusal}
use Rattle.machine.specs.Memory.{Room}
use Rattle.walk.specs.Walk.{walked_of, laid_answers, AllAnswered, WalksFile}

module _ {f syms stmts syms' stmts' : List ℕ} {v : Verdict} (ch : Checked f syms stmts syms' stmts' v) where
  pub walk_refused : {why : Refusal} {at : ℕ} {room : Room} {answers : List ℕ} → v ≡ Refused why at
      → WalksFile f room answers answers (Refused why at)
  unfolding walked_of laid_answers
  walk_refused is = record { counts = rw (sym ch.answers ∙ is) refl; lays = rw (sym ch.answers ∙ is) refl }

  pub walk-good : {n k count : ℕ} {room : Room} {answers answers' : List ℕ} → v ≡ Good n k
      → AllAnswered f room answers answers' count → WalksFile f room answers answers' (Ok count)
  unfolding walked_of laid_answers
  walk-good is all =
      record {
        counts = rw (sym ch.answers ∙ is) (ap Ok all.counts);
        lays = rw (sym ch.answers ∙ is) all.lays;
      }
