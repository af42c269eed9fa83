-- `packed_calls::packed_is_spelled` meets its contract: the tests are those of the ranges, and `raw_eq` tells.
use mathlib.Core.Path.{sym}
use Rattle.packed_calls.specs.Answers.{spelling}
use Rattle.packed_calls.proofs.Answering.{compared-refused, compared-told, lies-known}
use Rattle.packed_calls.proofs.packed_is_spelled.Goals as goal

pub returns-then-not-lies : goal.returns-then-not-lies
returns-then-not-lies c =
    let a = c.args in
    let whole = compared-refused a.from a.to a.pool.now (spelling a.file.now a.symbols.now a.at) (sym c.if-not-lies.ensures) in
    record { bytes = whole.0; lists = whole.1 }

pub raw_eq-requires : goal.raw_eq-requires
raw_eq-requires c = lies-known c.if-not-lies.ensures

pub returns : goal.returns
unfolding spelling
returns c =
    let a = c.args in
    let whole = compared-told a.from a.to a.pool.now (spelling a.file.now a.symbols.now a.at) (sym c.if-not-lies.ensures) c.raw_eq.ensures.bytes c.raw_eq.ensures.lists c.truth.ensures in
    record { bytes = whole.0; lists = whole.1 }
