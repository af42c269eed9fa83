-- `frames::record::listed_from` meets its contract: the kinds that are told apart are those of the laws in `Listing`.
use mathlib.Core.Path.{sym, ◌∙◌}
use native.Mathlib.Omega.{arith}
use Rattle.frames.specs.Layout.{asserts}
use Rattle.frames.proofs.Chains.{told}
use Rattle.frames.proofs.Listing.{essential-from, assertion-from}
use Rattle.frames.proofs.record.listed_from.Goals as goal

pub returns-then-kind-eq3 : goal.returns-then-kind-eq3
returns-then-kind-eq3 c =
    let from = essential-from c.args.file.now c.args.at (sym c.kind_at-kind.ensures.0 ∙ c.if-kind-eq3.true) in
    (omega (arith, from), omega arith)

pub returns-then-is_assertion : goal.returns-then-is_assertion
returns-then-is_assertion c =
    let asserted = told asserts c.is_assertion.ensures c.kind_at-kind.ensures.0 c.if-is_assertion.true in
    let from = assertion-from c.args.file.now c.args.at asserted in
    let hyps = c.u16_at.ensures in
    let pairs = c.u16_at-then-is_assertion.ensures in
    (omega (arith, from, hyps.0, pairs.0), omega (arith, hyps.1, pairs.1))
