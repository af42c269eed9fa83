-- `resolve::is_ambiguous` meets its contract: the local label, if there is one, is sought (`tells-sought`, `tells_none`).
use Rattle.resolve.proofs.Resolving.{tells-sought, tells_none}
use mathlib.Core.Path.{◌∙◌, sym}
use Rattle.resolve.proofs.is_ambiguous.Goals as goal

pub find_named-requires : goal.find_named-requires
find_named-requires c = c.requires.labelled

pub returns-then-has_local : goal.returns-then-has_local
returns-then-has_local c = let a = c.args in rw c.is_some.ensures (tells-sought a.file.now a.statements.now a.token.now (sym c.has_local.ensures ∙ c.if-has_local.true) c.local_label-local.ensures c.find_named.ensures)

pub returns : goal.returns
returns c = let a = c.args in tells_none a.file.now a.statements.now a.token.now (sym c.has_local.ensures ∙ c.if-has_local.false)
