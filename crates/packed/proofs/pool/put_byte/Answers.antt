-- `packed::pool::put_byte` meets its contract: one byte, marked (`written_byte`).
use Rattle.packed.proofs.Written.{written_byte}
use Rattle.packed.proofs.pool.put_byte.Goals as goal

pub returns : goal.returns
returns c = let a = c.args in let p = c.requires in cc (written_byte a.name.now a.at a.pool.now p.0 p.1)
