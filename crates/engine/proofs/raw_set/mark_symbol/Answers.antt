-- `engine::raw_set::mark_symbol` meets its contract: a variable adds its number, if it has one; any other symbol adds nothing.
use Rattle.engine.proofs.RawSets.{marks-constant, marks-nothing, marks-number}
use Rattle.packed.proofs.Pieces.{var-no, var-yes}
use native.Mathlib.Omega.{arith}
use Rattle.engine.proofs.raw_set.mark_symbol.Goals as goal

pub returns-then-n-gt0 : goal.returns-then-n-gt0
returns-then-n-gt0 c = let a = c.args in marks-number a.file.now a.symbols.now a.numbers.now a.s.0 _ (var-yes a.file.now a.symbols.now a.s.0 _ _ c.entry.ensures c.class.ensures c.if-class-eq1.true) c.entry-n.ensures c.if-n-gt0.true c.set_bit.ensures.adds

pub returns-else-n-gt0 : goal.returns-else-n-gt0
returns-else-n-gt0 c = let a = c.args in marks-nothing a.file.now a.symbols.now a.numbers.now a.s.0 a.all.words (omega arith)

pub returns-else-class-eq1 : goal.returns-else-class-eq1
returns-else-class-eq1 c = let a = c.args in marks-constant a.file.now a.symbols.now a.numbers.now a.s.0 a.all.words (var-no a.file.now a.symbols.now a.s.0 _ _ c.entry.ensures c.class.ensures c.if-class-eq1.false)
