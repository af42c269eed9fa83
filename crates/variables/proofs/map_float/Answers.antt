-- `variables::map_float` meets its contract: a $f has its variable, any other statement none.
use Rattle.variables.proofs.Floats.{all_one, all_same, float-no, float-yes}
use Rattle.variables.proofs.Pairs.{all_none}
use Rattle.variables.proofs.map_float.Goals as goal

pub returns-then-kind-eq2 : goal.returns-then-kind-eq2
returns-then-kind-eq2 c = let a = c.args in all_same (float-yes a.file.now a.at _ _ c.kind.ensures c.if-kind-eq2.true c.variable.ensures) (all_one c.map_var.ensures)

pub returns-else-kind-eq2 : goal.returns-else-kind-eq2
returns-else-kind-eq2 c = let a = c.args in all_same (float-no a.file.now a.at _ c.kind.ensures c.if-kind-eq2.false) (all_none a.numbers.now a.count)
