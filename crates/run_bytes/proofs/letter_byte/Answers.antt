-- `run_bytes::letter_byte` meets its contract.
use Rattle.run_bytes.proofs.Byting.{letter-byte}
use native.Mathlib.Omega.{arith}
use Rattle.run_bytes.proofs.letter_byte.Goals as goal

pub on_letter-read-requires : goal.on_letter-read-requires
on_letter-read-requires c = record { running = c.requires.running; low = c.requires.low.0 }

pub after-requires : goal.after-requires
after-requires c = let f = c.requires.running.checked.text_few in omega (arith, c.requires.low.1.1)

pub returns : goal.returns
returns c = letter-byte c.requires.low.1.0 c.on_letter-read.ensures c.after.ensures
