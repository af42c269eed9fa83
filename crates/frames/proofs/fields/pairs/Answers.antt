-- `frames::fields::pairs` meets its contract: a list has as many members as its count says.
use Rattle.frames.proofs.Loops.{length-rows}
use Rattle.frames.specs.Database.{statement_at}
use Rattle.frames.specs.Layout.{pair_at, pair_count, pairs_at, pairs_from}
use mathlib.Core.Path.{◌∙◌, sym}
use Rattle.frames.proofs.fields.pairs.Goals as goal

pub returns : goal.returns
unfolding statement_at pairs_at
returns c = let a = c.args in (c.pair_count.ensures.0 ∙ sym (length-rows (pair_at a.file.now) 4 (pair_count a.file.now a.at) (pairs_from a.file.now a.at)), c.pair_count.ensures.1)
