-- `packed_calls::packed_copy` meets its contract: the tests are those of the ranges, and `add_range` adds the bytes.
use mathlib.Core.Path.{sym}
use native.Mathlib.Omega.{arith}
use Rattle.packed.specs.Pool.{range}
use Rattle.packed_calls.proofs.Answering.{answered-refused, answered-added, copies, both_yes, first-no, second-no, roomed-known, lies-known}
use Rattle.packed_calls.proofs.packed_copy.Goals as goal
use Rattle.packed_calls.proofs.packed_copy.Goals.{then-not-roomed-via-then-not-roomed, then-not-roomed-via-else-not-roomed+then-not-lies}

pub returns-then-not-roomed : goal.returns-then-not-roomed
returns-then-not-roomed c =
    let a = c.args in
    let whole = answered-refused (range a.from a.to a.pool.now) a.used a.limit a.pool.now
    (elim c.then-not-roomed.branch [
      | then-not-roomed-via-then-not-roomed w ↦ first-no _ (sym w.if-not-roomed.ensures)
      | then-not-roomed-via-else-not-roomed+then-not-lies w ↦ second-no _ (sym w.if-not-lies.ensures)
    ]) in
    record { bytes = whole.0; lists = whole.1 }

pub add_range-requires : goal.add_range-requires
add_range-requires c =
    let ends = lies-known c.if-not-lies.ensures in
    let room = roomed-known c.args.pool.now c.if-not-roomed.ensures in
    ((omega (arith, ends.0), omega (arith, ends.1)), room)

pub returns : goal.returns
returns c =
    let right = both_yes (sym c.if-not-roomed.ensures) (sym c.if-not-lies.ensures) in
    let whole = answered-added right c.add_range.ensures.adds (copies c.add_range.ensures.adds c.add_range.ensures.full) c.number.ensures in
    record { bytes = whole.0; lists = whole.1 }
