-- `packed::images::image_set` meets its contract: the four words that were read (`four-words`).
use mathlib.Core.Path.{◌∙◌}
use Rattle.bitset.proofs.Laws.{four-words}
use Rattle.packed.specs.Images.{set_of}
use Rattle.packed.proofs.images.image_set.Goals as goal

pub returns : goal.returns
unfolding set_of
returns c = c.from_table.ensures ∙ four-words _ _
