-- `frames::fields::hypotheses` meets its contract: a list has as many members as its count says.
use Rattle.frames.proofs.Loops.{length-rows}
use Rattle.frames.specs.Database.{statement_at}
use Rattle.frames.specs.Layout.{hyp_count, hyps_at, lists_from, u32}
use mathlib.Core.Path.{◌∙◌, sym}
use Rattle.frames.proofs.fields.hypotheses.Goals as goal

pub returns : goal.returns
unfolding statement_at hyps_at
returns c = let a = c.args in (c.hyp_count.ensures.0 ∙ sym (length-rows (u32 a.file.now) 4 (hyp_count a.file.now a.at) (lists_from a.file.now a.at)), c.hyp_count.ensures.1)
