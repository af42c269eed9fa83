-- `apply::hyps::process_hyps` meets its contract: after j hypotheses the tests that are left are those of the whole (`Processing`).
use Prim.Native.Nat.{◌-◌}
use Rattle.apply.proofs.Processing.{Processing}
use Rattle.apply.proofs.hyps.process_hyps.Given as goal

abbrev pub invariant-loop-j : goal.invariant-loop-j
invariant-loop-j l = Processing l.file l.symbols l.statements l.at l.stack l.base l.seats l.used l.initial.froms l.initial.tos l.initial.sets l.pool l.j l.froms l.tos l.sets
