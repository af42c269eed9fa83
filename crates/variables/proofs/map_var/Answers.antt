-- `variables::map_var` meets its contract: past the table, a number it has, or the next one (`maps-past`, `maps-known`, `maps-new`).
use Rattle.variables.proofs.Numbering.{maps-known, maps-new, maps-past}
use Rattle.variables.proofs.map_var.Goals as goal
use Rattle.variables.proofs.map_var.Goals.{else-s-numbers-via-then-s-numbers+else-numbers-s-eq0, else-s-numbers-via-else-s-numbers}

pub returns-then-numbers-s-eq0 : goal.returns-then-numbers-s-eq0
returns-then-numbers-s-eq0 c = let a = c.args in maps-new a.numbers.now a.count a.v.0 c.if-s-numbers.true c.if-numbers-s-eq0.true

pub returns-else-s-numbers : goal.returns-else-s-numbers
returns-else-s-numbers c =
    let a = c.args in
    elim c.else-s-numbers.branch [
      | else-s-numbers-via-then-s-numbers+else-numbers-s-eq0 w ↦ maps-known a.numbers.now a.count a.v.0 w.if-numbers-s-eq0.false
      | else-s-numbers-via-else-s-numbers w ↦ maps-past a.numbers.now a.count a.v.0 w.if-s-numbers.false
    ]
