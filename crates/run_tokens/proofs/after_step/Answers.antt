-- `run_tokens::after_step` meets its contract: there is no local label (`labels-none`), or it is given (`labels-given`) or refused (`labels-refused`).
use Rattle.run_tokens.proofs.Tokening.{labels-none, labels-given, labels-refused}
use Rattle.run_tokens.proofs.after_step.Goals as goal

pub returns-then-local-eq0 : goal.returns-then-local-eq0
returns-then-local-eq0 c = labels-none c.local_span-local.ensures c.if-local-eq0.true

pub returns-in-Ok : goal.returns-in-Ok
returns-in-Ok c = labels-given c.local_span-local.ensures c.if-local-eq0.false c.give_local.ensures c.in-Ok.is

pub returns-in-Err : goal.returns-in-Err
returns-in-Err c = labels-refused c.local_span-local.ensures c.if-local-eq0.false c.give_local.ensures c.in-Err.is
