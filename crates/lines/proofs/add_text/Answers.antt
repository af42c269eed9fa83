-- `lines::add_text` meets its contract: there is no room (`adds-full`), or the text is put there (`adds-to`).
use mathlib.Core.Path.{refl}
use Rattle.packed.proofs.Adding.{adds-full, adds-to}
use native.Mathlib.Omega.{arith}
use Rattle.lines.proofs.add_text.Goals as goal

pub returns-then-limit-at : goal.returns-then-limit-at
returns-then-limit-at c = adds-full _ _ (omega arith)

pub returns-then-limit-at-2 : goal.returns-then-limit-at-2
returns-then-limit-at-2 c = adds-full _ _ (omega arith)

pub returns : goal.returns
returns c = adds-to refl (omega arith) (omega arith) c.put_text.ensures
