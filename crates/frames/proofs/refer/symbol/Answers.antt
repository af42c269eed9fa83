-- `frames::refer::symbol` meets its contract: inside the list the reader stands where `here-rows` says, past its end the default is read.
use Rattle.frames.proofs.Loops.{here-get_or, here-rows, rows-past}
use Rattle.frames.specs.Layout.{symbol_count, symbols_at, symbols_from, u16}
use native.Mathlib.Omega.{arith}
use Rattle.frames.proofs.refer.symbol.Goals as goal

pub returns-then-i-symbol_count : goal.returns-then-i-symbol_count
unfolding symbols_at
returns-then-i-symbol_count c = let a = c.args in cc (here-get_or (here-rows (u16 a.file.now) 2 (symbol_count a.file.now a.at) (symbols_from a.file.now a.at) a.i (omega arith)) 0)

pub returns-else-i-symbol_count : goal.returns-else-i-symbol_count
unfolding symbols_at
returns-else-i-symbol_count c = let a = c.args in rows-past (u16 a.file.now) 2 (symbol_count a.file.now a.at) (symbols_from a.file.now a.at) a.i 0 (omega arith)
