-- `sizes::words_at` meets its contract: what the callees ensure, joined.
use Prim.Native.Nat.{ℕ}
use mathlib.Core.Path.{◌∙◌, ap}
use lib.ListN.{length}
use Rattle.frames.specs.Database.{statement_at}
use Rattle.sizes.specs.Measured.{offset_of, words_at}
use Rattle.sizes.proofs.words_at.Goals as goal

pub returns : goal.returns
unfolding words_at
returns c =
    let read = ap (λ (o : ℕ). length (statement_at c.args.file.now o).hyps) (c.offset-at.ensures ∙ ap offset_of c.entry_or.ensures) in
    (c.hypotheses.ensures.0 ∙ read, c.hypotheses.ensures.1)
