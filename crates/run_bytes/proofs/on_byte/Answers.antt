-- `run_bytes::on_byte` meets its contract: the mode decides.
use Rattle.run_bytes.proofs.Byting.{low-letters, plain-else}
use Rattle.run_bytes.proofs.on_byte.Goals as goal

pub letter_byte-requires : goal.letter_byte-requires
letter_byte-requires c = let q = c.requires.low in record { running = c.requires.running; low = ((low-letters q.0.0 c.in-Letters.is, q.0.1), (c.in-Letters.is, q.1.1)) }

pub plain_byte-requires : goal.plain_byte-requires
plain_byte-requires c = let q = c.requires.low in record { labelled = c.requires.labelled; running = c.requires.running; low = ((q.0, plain-else c.args.s.mode c.in_default.not-Letters), q.1) }
