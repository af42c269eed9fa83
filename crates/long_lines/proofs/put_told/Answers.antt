-- `put_told` meets its contract: a text where 0 is told (`text-told`), else a refusal (`refusal-told`).
use mathlib.Core.Path.{sym}
use lib.ListN.{take}
use lib.Seq.{length-take-le}
use Rattle.long_lines.proofs.ToldLines.{text-told, refusal-told}
use Rattle.long_lines.proofs.put_told.Goals as goal

pub slice_bounds-put_long-end : goal.slice_bounds-put_long-end
slice_bounds-put_long-end c = sym (length-take-le _ c.args.text.now (c.requires.within c.if-number-eq0.true))

pub returns-then-number-eq0 : goal.returns-then-number-eq0
returns-then-number-eq0 c = let a = c.args in text-told a.label.now a.told.place a.told.steps (take a.told.place a.text.now) c.if-number-eq0.true c.put_long.ensures

pub returns : goal.returns
returns c = let a = c.args in refusal-told a.label.now a.told.place a.told.steps (take a.told.place a.text.now) c.if-number-eq0.false c.put_refusal.ensures
