-- `disjoint::apart::includes` meets its contract: a set joined with what it has is the set itself (`includes-tells`).
use mathlib.Core.Path.{◌≡◌}
use Rattle.std.proofs.Common.{rules}
use Rattle.std.proofs.lemmas.Slice.Eq.{bytes_eq-Decides}
use Rattle.std.specs.Bool.{Decides}
use Rattle.disjoint.proofs.Including.{includes-tells}
use Rattle.disjoint.proofs.apart.includes.Goals as goal

pub returns : goal.returns
returns c =
    let d : Decides c.eq.result (c.union.result.words ≡ c.args.x.words) = search (rules, bytes_eq-Decides) in
    includes-tells c.eq.result c.union.ensures.words c.union.ensures.others c.union.ensures.joins d
