-- `ends::local::lay_local` meets its contract: one label is laid, or there is no room (`lays_one`, `lays-none`).
use Rattle.ends.proofs.Labelling.{lays-none, lays_one}
use Rattle.ends.proofs.local.lay_local.Goals as goal

pub returns-then-count-lt4096 : goal.returns-then-count-lt4096
returns-then-count-lt4096 c = lays_one c.add_local.ensures

pub returns-else-count-lt4096 : goal.returns-else-count-lt4096
returns-else-count-lt4096 c = lays-none c.if-count-lt4096.false
