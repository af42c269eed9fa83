-- The letters that run a step: what each does is what the definition does.
use Rattle.std.proofs.Common.{Ok, Err}
use Prim.Native.Nat.{ℕ, ◌+◌, ◌*◌}
use mathlib.Core.Path.{◌≡◌, refl, ◌∙◌}
use mathlib.Core.Bool.{true}
use mathlib.Core.List.{List}
use native.Mathlib.Omega.{arith}
use lib.ListN.{length}
use Rattle.frames.specs.Database.{database}
use Rattle.machine.specs.declared.Refusal.{Refusal}
use Rattle.machine.specs.Reading.{letter}
use Rattle.machine.specs.Memory.{Memory}
use Rattle.machine.specs.Run as machine
use Rattle.machine.proofs.Stepped.{steps-out, step-at-steps}
use Rattle.memory.specs.declared.Counts.{Counts}
use Rattle.memory.specs.declared.Limits.{Limits}
use Rattle.memory.specs.Outcome.{Outcome}
use Rattle.memory.specs.Shown.{room_of, bench, lent, mark_of, Shown, Ends}
use Rattle.memory.proofs.Ending.{ends-go, ends-refused}
use Rattle.apply.proofs.OneHyp.{ranged-more}
use Rattle.engine.specs.Place.{RunsPlace}
use Rattle.run.specs.declared.Mode.TheVariants.{Letters}
use Rattle.run.specs.Read.{Go, Stop}
use Rattle.run.specs.Running.{env, tables, Running}
use Rattle.run.specs.Reads.{mode_of, letters}
use Rattle.run.proofs.Settling.{settled-go, stopped, keeps-stop, keeps-go}
use Rattle.run.specs.Letters.{after_last, LastLetter}

-- the step of a letter
module _ {f syms stmts : List ℕ} {p : ℕ} {text table : List ℕ} {limits : Limits} {seats froms tos sets numbers pool stack places locals tree : List ℕ} {c : Counts}
    (r : Running (env f syms stmts p text table limits) (tables seats froms tos sets numbers pool stack places locals tree) c) where
  place-follows : {n : ℕ} {froms' tos' sets' pool' stack' tree' : List ℕ} {answer : Outcome} → RunsPlace f syms stmts text table froms tos sets pool stack tree places n c limits 0 0 froms' tos' sets' pool' stack' tree' answer
      → (m : Memory) → Shown (bench f syms stmts p limits text) (lent numbers pool stack places locals tree) c m
      → Ends (Shown (bench f syms stmts p limits text) (lent numbers pool' stack' places locals tree')) (machine.step_at (database f) p (room_of limits) m n) answer
  unfolding machine.step_at mark_of
  place-follows runs m s =
      let z = r.sized in
      let x = z.froms in
      let y = z.tos in
      let w = z.sets in
      runs.follows p numbers locals m r.checked.filed r.checked.asked r.checked.under (omega arith) (omega arith) (omega arith) s

-- `A`..`T`
module _ {f syms stmts : List ℕ} {p : ℕ} {text table : List ℕ} {limits : Limits} {seats seats' froms tos sets numbers pool stack places locals tree froms' tos' sets' pool' stack' tree' : List ℕ} {c : Counts} {k d steps : ℕ}
    (r : Running (env f syms stmts p text table limits) (tables seats froms tos sets numbers pool stack places locals tree) c) where
  last-go : {c' : Counts} → length seats' ≡ length seats → RunsPlace f syms stmts text table froms tos sets pool stack tree places (20 * k + d) c limits 0 0 froms' tos' sets' pool' stack' tree' (Ok c')
      → LastLetter (env f syms stmts p text table limits) (tables seats froms tos sets numbers pool stack places locals tree) (tables seats' froms' tos' sets' numbers pool' stack' places locals tree') c k d steps
      (Go (Letters 0 true) c' (steps + 1))
  unfolding machine.on_letter mode_of
  last-go {c'} same-seats runs can_save =
      let z = r.sized in
      record {
        keeps =
            keeps-go
            (record {
              seats = let q = z.seats in omega arith;
              froms = runs.froms_sized ∙ z.froms;
              tos = runs.tos_sized ∙ z.tos;
              sets = runs.sets_sized ∙ z.sets;
              ranged = ranged-more (runs.grows c' refl) runs.ranged;
            })
            (letters (omega arith)) (omega arith);
        follows = λ m at n s.
            let w = ends-go (place-follows r runs m s) in
            settled-go m.steps (machine.go_on at) (Letters 0 true) w.1 w.2 (let n' = steps-out (step-at-steps _ _ _ _ _) w.1 in omega arith);
      }

  last-stop : {why : Refusal} → RunsPlace f syms stmts text table froms tos sets pool stack tree places (20 * k + d) c limits 0 0 froms' tos' sets' pool' stack' tree' (Err why)
      → LastLetter (env f syms stmts p text table limits) (tables seats froms tos sets numbers pool stack places locals tree) (tables seats' froms' tos' sets' numbers pool' stack' places locals tree') c k d steps
      (Stop why steps)
  unfolding machine.on_letter
  last-stop runs can_save =
      record {
        keeps = keeps-stop;
        follows = λ m at n s. (stopped (machine.go_on at) (machine.go_on at (machine.in_letters 0 true)) n (ends-refused (place-follows r runs m s)));
      }

  pub last-read : length seats' ≡ length seats → (answer : Outcome) → RunsPlace f syms stmts text table froms tos sets pool stack tree places (20 * k + d) c limits 0 0 froms' tos' sets' pool' stack' tree' answer
      → LastLetter (env f syms stmts p text table limits) (tables seats froms tos sets numbers pool stack places locals tree) (tables seats' froms' tos' sets' numbers pool' stack' places locals tree') c k d steps
      (after_last answer steps)
  unfolding after_last
  last-read same-seats (Ok c') runs = last-go same-seats runs
  last-read same-seats (Err why) runs = last-stop runs
