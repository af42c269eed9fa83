-- `packed_calls::packed_is_substituted` meets its contract: the tests are those of the ranges; where all images are within the pool
-- `do_substitute_eq` tells.
use mathlib.Core.Path.{sym}
use lib.ListN.{length}
use Rattle.packed_calls.specs.Answers.{substitution}
use Rattle.packed_calls.proofs.Ranges.{within-imaged}
use Rattle.packed_calls.proofs.Answering.{compared-refused, compared-told, both_yes, first-no, second-no, lies-known}
use Rattle.packed_calls.proofs.packed_is_substituted.Goals as goal
use Rattle.packed_calls.proofs.packed_is_substituted.Goals.{then-not-lies-via-then-not-lies, then-not-lies-via-else-not-lies+then-not-imaged}

pub returns-then-not-lies : goal.returns-then-not-lies
returns-then-not-lies c =
    let a = c.args in
    let whole = compared-refused a.from a.to a.pool.now (substitution a.file.now a.symbols.now a.at a.froms.now a.tos.now a.pool.now)
    (elim c.then-not-lies.branch [
      | then-not-lies-via-then-not-lies w ↦ first-no _ (sym w.if-not-lies.ensures)
      | then-not-lies-via-else-not-lies+then-not-imaged w ↦ second-no _ (sym w.if-not-imaged.ensures)
    ]) in
    record { bytes = whole.0; lists = whole.1 }

pub do_substitute_eq-requires : goal.do_substitute_eq-requires
do_substitute_eq-requires c =
    let a = c.args in
    (lies-known c.if-not-lies.ensures, within-imaged a.file.now a.symbols.now a.at a.froms.now a.tos.now (length a.pool.now) (sym c.if-not-imaged.ensures))

pub returns : goal.returns
unfolding substitution
returns c =
    let a = c.args in
    let right = both_yes (sym c.if-not-lies.ensures) (sym c.if-not-imaged.ensures) in
    let whole = compared-told a.from a.to a.pool.now (substitution a.file.now a.symbols.now a.at a.froms.now a.tos.now a.pool.now) right c.do_substitute_eq.ensures.bytes c.do_substitute_eq.ensures.lists c.truth.ensures in
    record { bytes = whole.0; lists = whole.1 }
