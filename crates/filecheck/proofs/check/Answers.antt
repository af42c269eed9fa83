-- `filecheck::check` meets its contract: a file that is too long is refused before its first record (`too_long`); any other is walked.
use Rattle.filecheck.proofs.Walking.{too_long}
use Rattle.filecheck.proofs.check.Goals as goal

pub returns-then-file-gt1048576 : goal.returns-then-file-gt1048576
returns-then-file-gt1048576 c = too_long c.args.file.now c.args.symbols.now c.args.statements.now c.if-file-gt1048576.true
