-- `sizes::measure` meets its contract: the pass goes as far as the table reaches, and its table is the one that is defined (`measures`).
use Rattle.sizes.proofs.Measuring.{measures}
use Rattle.sizes.proofs.measure.Goals as goal

pub returns : goal.returns
returns c = measures c.args.file.now c.args.tree.now c.args.n c.args.sizes.now _ _ c.min-end.ensures c.sizes-1.given c.measure_to.ensures
