-- `disjoint::table::row` meets its contract: the words from the row's place on (`row_words-at`), or none where that is past the table (`row-past`).
use Prim.Native.Nat.{◌<◌, ◌^◌}
use Rattle.std.proofs.Common.{rules, length}
use Rattle.disjoint.proofs.Tabling.{row_words-at, row-past}
use Rattle.disjoint.proofs.table.row.Goals as goal

pub returns : goal.returns
returns c =
    let short : length c.args.table.now < 2 ^ 64 = search rules in
    search (rules, row_words-at)

pub returns-then-table-at : goal.returns-then-table-at
returns-then-table-at c =
    let short : length c.args.table.now < 2 ^ 64 = search rules in
    search (rules, row-past)
