-- `write_lines` is safe and ends.
use Rattle.long_lines.proofs.ToldLines.{filed-listed}
use Rattle.long_lines.proofs.write_lines.Goals as goal

pub is_provable-requires : goal.is_provable-requires
is_provable-requires c = (filed-listed c.requires, c.loop-i-test.true)

pub write_line-requires : goal.write_line-requires
write_line-requires c = (c.requires, c.loop-i-test.true)
