-- `frames::fields::symbols` meets its contract: a list has as many members as its count says.
use Rattle.frames.proofs.Loops.{length-rows}
use Rattle.frames.specs.Database.{statement_at}
use Rattle.frames.specs.Layout.{symbol_count, symbols_at, symbols_from, u16}
use mathlib.Core.Path.{◌∙◌, sym}
use Rattle.frames.proofs.fields.symbols.Goals as goal

pub returns : goal.returns
unfolding statement_at symbols_at
returns c = let a = c.args in (c.symbol_count.ensures.0 ∙ sym (length-rows (u16 a.file.now) 2 (symbol_count a.file.now a.at) (symbols_from a.file.now a.at)), c.symbol_count.ensures.1)
