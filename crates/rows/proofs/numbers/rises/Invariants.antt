-- `rows::numbers::rises` meets its contract: the loop stops at the first number that does not rise. The invariant: what is left rises from `low` exactly when the whole rises (`RisingSoFar`).
use Prim.Native.Nat.{◌≤◌}
use Rattle.frames.proofs.Loops.{RisingSoFar}
use Rattle.frames.specs.Layout.{u32}
use Rattle.frames.specs.Logic.{rows}
use Rattle.rows.proofs.numbers.rises.Given as goal

abbrev pub invariant-loop-i : goal.invariant-loop-i
invariant-loop-i l = ((l.low ≤ 4294967296) × RisingSoFar (rows (u32 l.file) 4 l.h l.from) l.low l.i)
