-- `spans::local_span` meets its contract: the span before its sign stands for the part (`local-stands`).
use mathlib.Core.Path.{refl}
use Rattle.packed.specs.Pool.{range}
use Rattle.tokens.proofs.Halves.{first-at}
use Rattle.spans.proofs.Spanning.{local-stands}
use native.Mathlib.Omega.{arith}
use Rattle.spans.proofs.local_span.Goals as goal

pub returns : goal.returns
unfolding range
returns c = local-stands c.args.text.now c.args.from c.args.to (omega arith) (omega arith) refl (first-at _ refl) (first-at _ refl) c.part_span.ensures
