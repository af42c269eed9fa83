-- `begin::begin` meets its contract: each of its four returns is one law of Starting.antt.
use mathlib.Core.Path.{sym, ◌∙◌}
use Rattle.begin.proofs.Starting.{begins-bad, begins-never, begins-many, begins-go}
use Rattle.begin.proofs.begin.Goals as goal

pub returns-then-any_bad : goal.returns-then-any_bad
returns-then-any_bad c = begins-bad (sym c.any_bad.ensures ∙ c.if-any_bad.true)

pub returns-then-mandatory-gt256 : goal.returns-then-mandatory-gt256
returns-then-mandatory-gt256 c = begins-never (sym c.any_bad.ensures ∙ c.if-any_bad.false) c.map_floats-mandatory.ensures c.if-mandatory-gt256.true

pub returns-then-count-gt256 : goal.returns-then-count-gt256
returns-then-count-gt256 c = begins-many (sym c.any_bad.ensures ∙ c.if-any_bad.false) c.map_floats-mandatory.ensures c.map_pairs-count.ensures c.if-count-gt256.true

pub returns : goal.returns
returns c = begins-go (sym c.any_bad.ensures ∙ c.if-any_bad.false) c.map_floats-mandatory.ensures c.map_pairs-count.ensures c.if-count-gt256.false
