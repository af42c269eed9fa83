-- `disjoint::keeps::keeps_pair` meets its contract: the images are disjoint, or both members are mandatory, or not both (`pair-apart`, `pair-second`, `pair-not-left`).
use mathlib.Core.Path.{◌∙◌}
use Rattle.frames.specs.Database.{statement_at}
use Rattle.variables.specs.Numbering.{floats_at}
use Rattle.disjoint.proofs.Keeping.{pair-apart, pair-second, pair-not-left}
use Rattle.disjoint.proofs.keeps.keeps_pair.Goals as goal
use Rattle.disjoint.proofs.keeps.keeps_pair.Goals.{then-is_mandatory, else-is_mandatory}

pub returns-then-all_disjoint : goal.returns-then-all_disjoint
returns-then-all_disjoint c =
    let a = c.args in
    let ms = floats_at a.file.now a.statements.now (statement_at a.file.now a.at).hyps in
    c.if-all_disjoint.true ∙ pair-apart ms a.sets.now a.table.now a.pair.left.0 a.pair.right.0 c.row.ensures c.row-2.ensures c.all_disjoint.ensures c.if-all_disjoint.true

pub returns-after-is_mandatory : goal.returns-after-is_mandatory
returns-after-is_mandatory c =
    let a = c.args in
    let ms = floats_at a.file.now a.statements.now (statement_at a.file.now a.at).hyps in
    elim c.if-is_mandatory.branch [
      | then-is_mandatory w ↦ rw w.result-is (pair-second ms a.sets.now a.table.now a.pair.left.0 a.pair.right.0 c.row.ensures c.row-2.ensures c.all_disjoint.ensures c.if-all_disjoint.false c.is_mandatory.ensures.bytes w.if-is_mandatory.true w.is_mandatory-then-is_mandatory.ensures.bytes)
      | else-is_mandatory w ↦ rw (w.result-is, w.if-is_mandatory.false) (pair-not-left ms a.sets.now a.table.now a.pair.left.0 a.pair.right.0 c.is_mandatory.ensures.bytes w.if-is_mandatory.false)
    ]
