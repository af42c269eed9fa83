-- `packed::images::do_substitute_vars` meets its contract: what was gathered and what the rest has is what all have (`GatheredTo`).
use Rattle.frames.specs.Layout.{symbols_at}
use Rattle.packed.proofs.Imaging.{GatheredTo}
use Rattle.packed.proofs.images.do_substitute_vars.Given as goal

abbrev pub invariant-loop-i : goal.invariant-loop-i
invariant-loop-i l = GatheredTo l.file l.symbols l.sets (symbols_at l.file l.at) l.i l.all.words
