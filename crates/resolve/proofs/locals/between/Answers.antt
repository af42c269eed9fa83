-- `resolve::locals::between` meets its contract: a part of the text, empty where it would end before it begins.
use Prim.Native.Nat.{◌-◌}
use Rattle.packed.specs.Pool.{range}
use mathlib.Core.Path.{◌≡◌}
use native.Mathlib.Omega.{arith}
use Rattle.resolve.proofs.locals.between.Goals as goal

pub returns-then-from-to : goal.returns-then-from-to
unfolding range
returns-then-from-to c = c.part.ensures

pub returns : goal.returns
unfolding range
returns c = let a = c.args in let e : a.to - a.from ≡ 0 = omega arith in rw e c.part-2.ensures
