-- `resolve::labels::may_name` meets its contract: a $e has to be listed.
use Rattle.frames.proofs.Chains.{either_first, either_second, no-of-false, no-of-true}
use Rattle.resolve.proofs.Naming.{listed-at-offset}
use Rattle.resolve.specs.Resolve.{may_name}
use mathlib.Core.Path.{◌∙◌, sym, refl}
use Rattle.resolve.proofs.labels.may_name.Goals as goal

pub returns-then-is_essential : goal.returns-then-is_essential
unfolding may_name
returns-then-is_essential c = let a = c.args in either_second (no-of-true (sym c.is_essential.ensures ∙ c.if-is_essential.true)) (listed-at-offset a.file.now a.s.0 c.is_listed.ensures c.statement_offset.ensures)

pub returns : goal.returns
unfolding may_name
returns c = either_first _ (no-of-false (sym c.is_essential.ensures ∙ c.if-is_essential.false)) refl
