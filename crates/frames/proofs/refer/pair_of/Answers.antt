-- `frames::refer::pair_of` meets its contract: inside the list the reader stands where `here-rows` says, past its end the default is read.
use Rattle.frames.proofs.Loops.{here-get_or, here-rows, rows-past}
use Rattle.frames.specs.Layout.{pair_at, pair_count, pairs_at, pairs_from}
use native.Mathlib.Omega.{arith}
use Rattle.frames.proofs.refer.pair_of.Goals as goal

pub returns-then-i-pair_count : goal.returns-then-i-pair_count
unfolding pairs_at pair_at
returns-then-i-pair_count c = let a = c.args in cc (here-get_or (here-rows (pair_at a.file.now) 4 (pair_count a.file.now a.at) (pairs_from a.file.now a.at) a.i (omega arith)) (0, 0))

pub returns : goal.returns
unfolding pairs_at
returns c = let a = c.args in rows-past (pair_at a.file.now) 4 (pair_count a.file.now a.at) (pairs_from a.file.now a.at) a.i (0, 0) (omega arith)
