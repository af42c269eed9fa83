-- `apply::hyps::process_hyp` meets its contract.
use Rattle.apply.proofs.OneHyp.{processes-essential, processes-float}
use Rattle.apply.proofs.hyps.process_hyp.Goals as goal

pub returns-then-kind-eq2 : goal.returns-then-kind-eq2
returns-then-kind-eq2 c = processes-float c.kind.ensures c.if-kind-eq2.true c.requires.1.1 c.requires.0.0 c.bind_float.ensures

pub returns : goal.returns
returns c = processes-essential c.kind.ensures c.if-kind-eq2.false c.check_essential.ensures
