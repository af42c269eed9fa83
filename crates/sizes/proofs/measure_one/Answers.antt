-- `sizes::measure_one` meets its contract. The invariant: what is summed so far and the words that are left make the size of the application (`Summed`).
use mathlib.Core.Path.{◌∙◌, ap}
use native.Mathlib.Omega.{arith}
use Rattle.sizes.specs.Measured.{label_size_at}
use Rattle.sizes.proofs.Passing.{summed-none, summed-more, summed-all}
use Rattle.sizes.proofs.measure_one.Goals as goal

pub loop-i-init : goal.loop-i-init
loop-i-init c = summed-none c.args.file.now c.args.tree.now c.args.sizes.now c.args.from c.words_at-n.ensures.0 (c.label_size-sum.ensures ∙ ap (label_size_at c.args.file.now) c.entry_or.ensures)

pub loop-i-preserved : goal.loop-i-preserved
loop-i-preserved c = summed-more c.args.file.now c.args.tree.now c.args.sizes.now c.args.from c.loop-i.invariant (omega arith) c.entry_or-word.ensures c.size_of.ensures c.add_capped-sum.ensures

pub returns : goal.returns
returns c = summed-all c.args.file.now c.args.tree.now c.args.sizes.now c.args.from c.loop-i.invariant (omega arith)
