-- `engine::raw_set::raw_set` meets its contract: after i symbols the set has what those before the i-th add (`RawTo`).
use Rattle.engine.proofs.RawSets.{RawTo}
use Rattle.frames.specs.Layout.{symbols_at}
use Rattle.frames.specs.Logic.{all}
use Rattle.machine.specs.BenchTable.{numbers}
use Rattle.engine.proofs.raw_set.raw_set.Given as goal

abbrev pub invariant-loop-i : goal.invariant-loop-i
invariant-loop-i l = RawTo l.file l.symbols l.numbers (symbols_at l.file l.at) l.i l.all.words
