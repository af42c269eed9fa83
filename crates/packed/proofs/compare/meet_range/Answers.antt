-- `packed::compare::meet_range` meets its contract: the text is too long, or the test of as many bytes decides (`meet-short`, `meet-yes`, `meet-no`).
use Prim.Native.Nat.{◌+◌, ◌-◌}
use Rattle.packed.proofs.Comparing.{meet-no, meet-short, meet-yes}
use Rattle.packed.proofs.Written.{range_length}
use Rattle.packed.specs.Pool.{range}
use mathlib.Core.Path.{◌≡◌}
use native.Mathlib.Omega.{arith}
use Rattle.packed.proofs.compare.meet_range.Goals as goal

pub returns-then-to-at : goal.returns-then-to-at
returns-then-to-at c =
    let a = c.args in
    let s = range_length a.from a.end a.pool.now (omega arith) (omega arith) in
    meet-short (range a.from a.end a.pool.now) a.at a.to (a.end - a.from) a.pool.now s (omega arith) (omega arith) (omega arith)

pub returns-then-matches_range : goal.returns-then-matches_range
returns-then-matches_range c =
    let a = c.args in
    let s = range_length a.from a.end a.pool.now (omega arith) (omega arith) in
    let e : a.from + (a.end - a.from) ≡ a.end = omega arith in
    meet-yes (range a.from a.end a.pool.now) a.at a.to (a.end - a.from) a.pool.now s (omega arith) (cc)

pub returns : goal.returns
returns c =
    let a = c.args in
    let s = range_length a.from a.end a.pool.now (omega arith) (omega arith) in
    let e : a.from + (a.end - a.from) ≡ a.end = omega arith in
    meet-no (range a.from a.end a.pool.now) a.at a.to (a.end - a.from) a.pool.now s (omega arith) (cc)
