-- `ends::local::save_labelled` meets its contract: what was saved, with one more local label (`saves-labelled`).
use Rattle.std.proofs.lemmas.Result.{err_from_is_err_and}
use Rattle.ends.proofs.Labelling.{saves-labelled}
use Rattle.ends.specs.Local.{labelled}
use Rattle.ends.proofs.local.save_labelled.Goals as goal

pub returns-in_err-now : goal.returns-in_err-now
unfolding labelled
returns-in_err-now c =
    let p = err_from_is_err_and c.from_residual.result c.from_residual.ensures.1 in rw (p.1, p.2)
    (saves-labelled (rw c.in_err-now.was at c.save_top.ensures))

pub returns : goal.returns
unfolding labelled
returns c = saves-labelled (rw c.in_ok-now.was at c.save_top.ensures)
