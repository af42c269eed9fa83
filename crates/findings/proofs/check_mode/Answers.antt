-- `findings::check_mode` meets its contract.
use Rattle.findings.proofs.Finishing.{mode-beginning, mode-letters, mode-normal, mode-roster, mode-varint}
use Rattle.findings.proofs.check_mode.Goals as goal

pub returns-then-k-gt0 : goal.returns-then-k-gt0
returns-then-k-gt0 c = mode-varint c.in-Letters.is c.if-k-gt0.true

pub returns-in-Roster : goal.returns-in-Roster
returns-in-Roster c = mode-roster c.in-Roster.is

pub returns-else-k-gt0 : goal.returns-else-k-gt0
returns-else-k-gt0 c = mode-letters c.in-Letters.is c.if-k-gt0.false

pub returns-in-Beginning : goal.returns-in-Beginning
returns-in-Beginning c = mode-beginning c.in-Beginning.is

pub returns-in-Normal : goal.returns-in-Normal
returns-in-Normal c = mode-normal c.in-Normal.is
