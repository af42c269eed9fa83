-- `seats::marks::check_mark` meets its contract: each return is one way to be checked.
use mathlib.Core.Path.{sym, ap, ◌∙◌}
use mathlib.Core.Option.{some}
use Rattle.memory.specs.Table.{word}
use Rattle.seats.specs.Marks.{bare, unknown}
use Rattle.seats.proofs.Marking.{mark-none, mark-read, checked-twice, checked-once}
use Rattle.seats.proofs.marks.check_mark.Goals as goal

pub returns-then-tag-eq0 : goal.returns-then-tag-eq0
unfolding word
returns-then-tag-eq0 c = bare (mark-none c.args.text.now _ _ (sym c.entry_or-tag.ensures ∙ c.if-tag-eq0.true))

pub returns-in-Some : goal.returns-in-Some
unfolding word
returns-in-Some c = checked-twice (mark-read c.args.text.now c.entry_or-tag.ensures c.entry_or-end.ensures c.if-tag-eq0.false ∙ ap some (sym c.span-mark.ensures)) (sym c.names_hypothesis.ensures ∙ c.if-names_hypothesis.true) c.in-Some.ensures

pub returns-in-None : goal.returns-in-None
unfolding word
returns-in-None c = checked-once (mark-read c.args.text.now c.entry_or-tag.ensures c.entry_or-end.ensures c.if-tag-eq0.false ∙ ap some (sym c.span-mark.ensures)) (sym c.names_hypothesis.ensures ∙ c.if-names_hypothesis.true) c.in-None.ensures

pub returns : goal.returns
unfolding word
returns c = unknown (mark-read c.args.text.now c.entry_or-tag.ensures c.entry_or-end.ensures c.if-tag-eq0.false ∙ ap some (sym c.span-mark.ensures)) (sym c.names_hypothesis.ensures ∙ c.if-names_hypothesis.false)
