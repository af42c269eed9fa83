-- `frames::refer::hypothesis` meets its contract: inside the list the reader stands where `here-rows` says, past its end the default is read.
use Rattle.frames.proofs.Loops.{here-get_or, here-rows, rows-past}
use Rattle.frames.specs.Layout.{hyp_count, hyps_at, lists_from, u32}
use native.Mathlib.Omega.{arith}
use Rattle.frames.proofs.refer.hypothesis.Goals as goal

pub returns-then-i-hyp_count : goal.returns-then-i-hyp_count
unfolding hyps_at
returns-then-i-hyp_count c = let a = c.args in cc (here-get_or (here-rows (u32 a.file.now) 4 (hyp_count a.file.now a.at) (lists_from a.file.now a.at) a.i (omega arith)) 0)

pub returns-else-i-hyp_count : goal.returns-else-i-hyp_count
unfolding hyps_at
returns-else-i-hyp_count c = let a = c.args in rows-past (u32 a.file.now) 4 (hyp_count a.file.now a.at) (lists_from a.file.now a.at) a.i 0 (omega arith)
