-- `check_input` meets its contract: a longer input is refused, any other is checked.
use mathlib.Core.Path.{refl}
use native.Mathlib.Omega.{arith}
use Rattle.long_lines.proofs.Checks.{taken-long, taken-short}
use Rattle.long_lines.proofs.check_input.Goals as goal

pub returns-then-input-gt65536 : goal.returns-then-input-gt65536
returns-then-input-gt65536 c = taken-long (omega (arith, c.if-input-gt65536.true)) refl

pub returns : goal.returns
returns c = taken-short (omega (arith, c.if-input-gt65536.false)) c.check.ensures
