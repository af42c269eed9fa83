-- `packed::images::lay_set` meets its contract: four stores, one after another, as the definition has them.
use Rattle.packed.proofs.Imaging.{stored-by}
use Rattle.packed.proofs.images.lay_set.Goals as goal

pub returns : goal.returns
returns c = let a = c.args in stored-by a.sets.now a.s.0 a.vars.words c.lay.ensures c.lay-2.ensures c.lay-3.ensures c.lay-4.ensures
