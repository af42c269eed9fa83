-- `disjoint::apart::all_disjoint` meets its contract: the chain asks the row of each member of x, in the order of the list of members.
use mathlib.Core.Path.{◌∙◌}
use Rattle.std.proofs.Common.{rules, tests}
use Rattle.std.proofs.lemmas.Iterator.Consumers.{YieldsList-from_first}
use Rattle.std.proofs.lemmas.Iterator.Search.{all_from_yields_List}
use Rattle.bitset.specs.Sets.{members}
use Rattle.bitset.specs.Iter.{left}
use Rattle.disjoint.specs.Disjoint.{row_has, apart}
use Rattle.disjoint.proofs.Including.{apart-empty, row_told}
use Rattle.frames.proofs.Words.{list_all-all}
use Rattle.disjoint.proofs.apart.all_disjoint.Goals as goal

pub returns-then-is_empty : goal.returns-then-is_empty
returns-then-is_empty c = c.if-is_empty.true ∙ apart-empty c.args.table.now (members c.args.x.words) c.args.y.words c.is_empty.ensures.tells c.if-is_empty.true

pub returns-else-is_empty : goal.returns-else-is_empty
unfolding apart
returns-else-is_empty c =
    let e = all_from_yields_List (row_has c.args.table.now (members c.args.y.words)) _ _ c.all.result c.all.ensures.ran (YieldsList-from_first (λ x. x) left (members c.args.x.words) c.iter.ensures.starts) (λ x b q k. search (rules, tests, row_told)) in
    e ∙ list_all-all _ _
