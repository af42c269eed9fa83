-- `seats::marks::is_marked` meets its contract: the mark is a part of the text (`mark-read`).
use Prim.Native.Nat.{ℕ}
use mathlib.Core.Path.{sym, ap, ◌∙◌}
use mathlib.Core.List.{List}
use Rattle.frames.specs.Logic.{same}
use Rattle.memory.specs.Table.{word}
use Rattle.seats.proofs.Marking.{mark-none, mark-read, marked-none, marked-some}
use Rattle.seats.proofs.marks.is_marked.Goals as goal

pub returns-then-tag-eq0 : goal.returns-then-tag-eq0
unfolding word
returns-then-tag-eq0 c = sym (marked-none c.args.label.now (mark-none c.args.text.now _ _ (sym c.entry_or-tag.ensures ∙ c.if-tag-eq0.true)))

pub returns : goal.returns
unfolding word
returns c = c.same_bytes.ensures ∙ (ap (λ (s : List ℕ). same s c.args.label.now) c.span.ensures ∙ sym (marked-some c.args.label.now (mark-read c.args.text.now c.entry_or-tag.ensures c.entry_or-end.ensures c.if-tag-eq0.false)))
