-- `filecheck::walk_records` meets its contract: the invariant is `Walking`: the definition from here on, with what has been read, is the definition of the whole file. The measure is what is
-- left of the file; a good record moves the walk on by at least 6 bytes (`next-further`).
use Prim.Native.Nat.{◌-◌}
use Rattle.filecheck.proofs.Walking.{Walking}
use lib.ListN.{length}
use Rattle.filecheck.proofs.walk_records.Given as goal

abbrev pub invariant-loop-st : goal.invariant-loop-st
invariant-loop-st l = Walking l.file l.initial.symbols l.initial.statements l.symbols l.statements l.st

abbrev pub decreases-loop-st : goal.decreases-loop-st
decreases-loop-st l = length l.file - l.st.at
