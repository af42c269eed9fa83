-- `apply::hyps::check_essential` meets its contract.
use mathlib.Core.List.{[]}
use Rattle.frames.specs.Logic.{pick}
use Rattle.apply.proofs.OneHyp.{essential-other, essential-same, ranged-imaged}
use Rattle.apply.proofs.hyps.check_essential.Goals as goal

pub returns-then-row-code : goal.returns-then-row-code
returns-then-row-code c = essential-other c.args.file.now c.args.at c.args.row c.args.froms.now c.args.tos.now [] c.typecode-code.ensures c.args.symbols.now c.args.pool.now c.if-row-code.true

pub do_substitute_eq-requires : goal.do_substitute_eq-requires
do_substitute_eq-requires c = (c.requires.0, ranged-imaged _ _ _ c.requires.1)

pub returns-then-do_substitute_eq : goal.returns-then-do_substitute_eq
unfolding pick
returns-then-do_substitute_eq c = essential-same c.args.file.now c.args.at c.args.row c.args.froms.now c.args.tos.now [] c.typecode-code.ensures c.args.symbols.now c.args.pool.now c.if-row-code.false (rw c.if-do_substitute_eq.true at c.do_substitute_eq.ensures.lists)

pub returns : goal.returns
unfolding pick
returns c = essential-same c.args.file.now c.args.at c.args.row c.args.froms.now c.args.tos.now [] c.typecode-code.ensures c.args.symbols.now c.args.pool.now c.if-row-code.false (rw c.if-do_substitute_eq.false at c.do_substitute_eq.ensures.lists)
