-- `sizes::label_size` meets its contract: what the callees ensure, joined.
use Prim.Native.Nat.{ℕ, ◌+◌}
use mathlib.Core.Path.{◌∙◌, ap}
use mathlib.Core.List.{List}
use lib.ListN.{length}
use Rattle.frames.specs.Database.{statement_at}
use Rattle.sizes.specs.Measured.{capped, label_size_at}
use Rattle.sizes.proofs.label_size.Goals as goal

pub returns : goal.returns
unfolding label_size_at
returns c =
    c.add_capped.ensures
    ∙ ap (λ (label : List ℕ). capped (length label + 1)) (c.label-label.ensures ∙ ap (λ (o : ℕ). (statement_at c.args.file.now o).label) c.offset.ensures)
