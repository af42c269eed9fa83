-- `filecheck::judge` meets its contract: the parts in use are as long as the counts say.
use lib.Seq.{length-take-le}
use mathlib.Core.Path.{sym}
use Rattle.filecheck.proofs.judge.Goals as goal

pub slice_bounds-fault-end : goal.slice_bounds-fault-end
slice_bounds-fault-end c = let a = c.args in sym (length-take-le a.st.symbols a.symbols.now c.requires.0)

pub slice_bounds-fault-end-2 : goal.slice_bounds-fault-end-2
slice_bounds-fault-end-2 c = let a = c.args in sym (length-take-le a.st.statements a.statements.now c.requires.1)
