-- `run_bytes::read_text` meets its contract: after i bytes the code stands where the definition stands (`SoFar`).
use Prim.Native.Nat.{◌-◌}
use lib.ListN.{length}
use Rattle.run.specs.Running.{env, tables}
use Rattle.run_bytes.proofs.Looping.{SoFar}
use Rattle.run_bytes.proofs.read_text.Given as goal

abbrev pub invariant-loop-i : goal.invariant-loop-i
invariant-loop-i l = SoFar (env l.file l.symbols l.statements l.p.0 l.text l.table l.limits) (tables l.initial.seats l.initial.froms l.initial.tos l.initial.sets l.initial.numbers l.initial.pool l.initial.stack l.initial.places l.initial.locals l.initial.tree) (tables l.seats l.froms l.tos l.sets l.numbers l.pool l.stack l.places l.locals l.tree) l.initial.s l.s l.i
