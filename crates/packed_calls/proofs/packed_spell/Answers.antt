-- `packed_calls::packed_spell` meets its contract: the tests are those of the ranges, and `do_substitute_raw` adds the bytes.
use mathlib.Core.Path.{sym}
use Rattle.packed_calls.specs.Answers.{spelling}
use Rattle.packed_calls.proofs.Answering.{answered-refused, answered-added, roomed-known}
use Rattle.packed_calls.proofs.packed_spell.Goals as goal

pub returns-then-not-roomed : goal.returns-then-not-roomed
returns-then-not-roomed c =
    let a = c.args in
    let whole = answered-refused (spelling a.file.now a.symbols.now a.at) a.used a.limit a.pool.now (sym c.if-not-roomed.ensures) in
    record { bytes = whole.0; lists = whole.1 }

pub do_substitute_raw-requires : goal.do_substitute_raw-requires
do_substitute_raw-requires c = roomed-known c.args.pool.now c.if-not-roomed.ensures

pub returns : goal.returns
unfolding spelling
returns c =
    let whole = answered-added (sym c.if-not-roomed.ensures) c.do_substitute_raw.ensures.bytes c.do_substitute_raw.ensures.lists c.number.ensures in
    record { bytes = whole.0; lists = whole.1 }
