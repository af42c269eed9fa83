-- `packed_calls::packed_substitute` meets its contract: the tests are those of the ranges; where all images are within the used part `do_substitute`
-- adds the bytes.
use mathlib.Core.Path.{sym}
use Rattle.packed_calls.specs.Answers.{substitution}
use Rattle.packed_calls.proofs.Ranges.{within-imaged}
use Rattle.packed_calls.proofs.Answering.{answered-refused, answered-added, both_yes, first-no, second-no, roomed-known}
use Rattle.packed_calls.proofs.packed_substitute.Goals as goal
use Rattle.packed_calls.proofs.packed_substitute.Goals.{then-not-roomed-via-then-not-roomed, then-not-roomed-via-else-not-roomed+then-not-imaged}

pub returns-then-not-roomed : goal.returns-then-not-roomed
returns-then-not-roomed c =
    let a = c.args in
    let whole = answered-refused (substitution a.file.now a.symbols.now a.at a.froms.now a.tos.now a.pool.now) a.used a.limit a.pool.now
    (elim c.then-not-roomed.branch [
      | then-not-roomed-via-then-not-roomed w ↦ first-no _ (sym w.if-not-roomed.ensures)
      | then-not-roomed-via-else-not-roomed+then-not-imaged w ↦ second-no _ (sym w.if-not-imaged.ensures)
    ]) in
    record { bytes = whole.0; lists = whole.1 }

pub do_substitute-requires : goal.do_substitute-requires
do_substitute-requires c =
    let a = c.args in
    record { used_le_limit = roomed-known c.args.pool.now c.if-not-roomed.ensures; imaged = within-imaged a.file.now a.symbols.now a.at a.froms.now a.tos.now a.used (sym c.if-not-imaged.ensures) }

pub returns : goal.returns
unfolding substitution
returns c =
    let right = both_yes (sym c.if-not-roomed.ensures) (sym c.if-not-imaged.ensures) in
    let whole = answered-added right c.do_substitute.ensures.bytes c.do_substitute.ensures.lists c.number.ensures in
    record { bytes = whole.0; lists = whole.1 }
