-- `label_index::put_all` meets its contract. The invariant: the table is the index of the statements so far (`LabelledTo`).
use native.Mathlib.Omega.{arith}
use mathlib.Core.Path.{◌≡◌, ◌∙◌, ap, sym}
use lib.ListN.{length}
use Rattle.label_index.specs.Labelled.{hash_of}
use Rattle.label_index.proofs.Chain.{labelled-more}
use Rattle.label_index.proofs.put_all.Goals as goal

pub loop-i-init : goal.loop-i-init
loop-i-init c = c.requires.labelled_to

pub put-requires : goal.put-requires
put-requires c = (c.loop-i.invariant.size, c.hash-b.ensures.1, omega arith)

pub loop-i-preserved : goal.loop-i-preserved
loop-i-preserved c = labelled-more c.args.file.now c.args.statements.now c.loop-i.labels c.hash-b.result c.loop-i.i c.loop-i.invariant (omega arith) (c.hash-b.ensures.0 ∙ ap hash_of c.rest_at.ensures) c.put.ensures

pub shape_of-labels : goal.shape_of-labels
shape_of-labels c = c.loop-i.invariant.size ∙ sym c.requires.labelled_to.size

pub returns : goal.returns
returns c = let end : length c.args.statements.now ≡ c.loop-i.i = omega arith in record { all = rw end c.loop-i.invariant }
