-- `apply::hyps::bind_float` meets its contract.
use Rattle.apply.proofs.OneHyp.{binds-other, binds-same}
use Rattle.apply.proofs.hyps.bind_float.Goals as goal

pub returns-then-row-typecode : goal.returns-then-row-typecode
returns-then-row-typecode c = binds-other c.args.file.now c.args.at c.args.row c.args.froms.now c.args.tos.now c.args.sets.now c.typecode-typecode.ensures c.if-row-typecode.true

pub returns : goal.returns
returns c = binds-same c.args.file.now c.args.at c.args.row c.args.froms.now c.args.tos.now c.args.sets.now c.typecode-typecode.ensures c.if-row-typecode.false c.variable-variable.ensures c.bind.ensures.0 c.bind.ensures.1.0 c.bind.ensures.1.1
