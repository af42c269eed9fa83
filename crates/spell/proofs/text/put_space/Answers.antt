-- `spell::text::put_space` meets its contract.
use Rattle.spell.proofs.Spacing.{space-put, space-there}
use Rattle.spell.proofs.text.put_space.Goals as goal

pub returns-then-at-gt0 : goal.returns-then-at-gt0
returns-then-at-gt0 c = space-put c.args.out.now c.args.at c.if-at-gt0.true

pub returns-else-at-gt0 : goal.returns-else-at-gt0
returns-else-at-gt0 c = space-there c.args.out.now c.args.at c.if-at-gt0.false
