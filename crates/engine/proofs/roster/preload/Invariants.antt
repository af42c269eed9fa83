-- `engine::roster::preload` meets its contract: after i hypotheses what is left is what the whole is (`Preloading`).
use Prim.Native.Nat.{◌-◌}
use Rattle.engine.proofs.Rostering.{Preloading}
use Rattle.engine.proofs.roster.preload.Given as goal

abbrev pub invariant-loop-i : goal.invariant-loop-i
invariant-loop-i l = Preloading l.file l.symbols l.statements l.at l.limits l.initial.numbers l.initial.pool l.initial.places l.initial.now l.i l.numbers l.pool l.places l.now
