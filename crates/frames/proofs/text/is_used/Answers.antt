-- `frames::text::is_used` meets its contract: a search finds something exactly where the text is used (`finds-is`).
use mathlib.Core.Path.{◌∙◌}
use Rattle.frames.proofs.Found.{finds-is}
use Rattle.frames.proofs.text.is_used.Goals as goal

pub returns : goal.returns
returns c = let a = c.args in c.is_some.ensures ∙ finds-is a.file.now a.offsets.now a.text.now _ c.find.ensures
