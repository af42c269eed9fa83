-- `long_within` meets its contract: at most 131,072 of the tree entries are handed on.
use mathlib.Core.Path.{sym, ◌∙◌}
use native.Mathlib.Omega.{arith}
use lib.Seq.{length-take-le}
use Rattle.long.proofs.long_within.Goals as goal

pub slice_bounds-long_file-end-2 : goal.slice_bounds-long_file-end-2
slice_bounds-long_file-end-2 c = sym (length-take-le _ c.args.tree.now (omega (arith, c.min-used.ensures)))

pub long_file-requires : goal.long_file-requires
long_file-requires c = length-take-le _ c.args.tree.now (omega (arith, c.min-used.ensures)) ∙ c.min-used.ensures
