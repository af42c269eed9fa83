use native.Mathlib.Omega.{arith}
use lib.ListN.{length-set}
use mathlib.Core.Path.{◌∙◌}
use Rattle.recording.proofs.Noting.{notes-lost, notes-short, notes-put}
use Rattle.recording.proofs.record_step.Goals as goal

pub returns-then-tree-used : goal.returns-then-tree-used
returns-then-tree-used c = notes-lost c.if-tree-used.true

pub returns-then-tree-next : goal.returns-then-tree-next
returns-then-tree-next c = notes-short (omega (arith, c.if-tree-used.false)) c.if-tree-next.true

pub shape_of-tree : goal.shape_of-tree
shape_of-tree c = let a = c.args in c.put_nodes.ensures.sized ∙ length-set a.tree.now a.used a.at

pub returns : goal.returns
returns c = notes-put c.if-tree-next.false c.put_nodes.ensures
