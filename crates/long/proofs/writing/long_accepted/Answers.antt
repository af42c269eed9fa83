-- `writing::long_accepted` meets its contract: 60, 61 or the text, a law for each.
use mathlib.Core.Path.{sym, ◌∙◌}
use native.Mathlib.Omega.{arith}
use Rattle.long.proofs.Accepting.{full-long, whole_long, exceeding-long}
use Rattle.long.proofs.writing.long_accepted.Goals as goal

pub returns-then-too_few : goal.returns-then-too_few
returns-then-too_few c = let a = c.args in full-long a.file.now a.tree.now a.lent a.place a.steps a.word a.nodes a.output.now (sym c.too_few.ensures ∙ c.if-too_few.true)

pub returns-in-Some : goal.returns-in-Some
returns-in-Some c = let a = c.args in whole_long a.file.now a.tree.now a.lent a.place a.steps a.word a.nodes a.output.now _ _ _ _ (omega arith) (omega arith) (sym c.too_few.ensures ∙ c.if-too_few.false) c.write_long.ensures c.in-Some.is

pub returns-in-None : goal.returns-in-None
returns-in-None c = let a = c.args in exceeding-long a.file.now a.tree.now a.lent a.place a.steps a.word a.nodes a.output.now _ _ _ _ (omega arith) (omega arith) (sym c.too_few.ensures ∙ c.if-too_few.false) c.write_long.ensures c.in-None.is
