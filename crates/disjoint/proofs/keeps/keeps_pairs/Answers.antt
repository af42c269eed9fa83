-- `disjoint::keeps::keeps_pairs` meets its contract: the chain asks each pair, by its index (`all-indexed`), and the whole test is that of the definition (`keeps-told`).
use mathlib.Core.Path.{◌∙◌, refl}
use Rattle.std.proofs.Common.{rules, tests, length, get_or, arith}
use Rattle.std.proofs.lemmas.Iterator.{YieldsList-from_range}
use Rattle.std.proofs.lemmas.Iterator.Search.{all_from_yields_List}
use Rattle.frames.proofs.Words.{all-indexed}
use Rattle.frames.specs.Database.{statement_at}
use Rattle.variables.specs.Numbering.{floats_at}
use Rattle.disjoint.specs.Disjoint.{keeps_at}
use Rattle.disjoint.proofs.Keeping.{keeps-told}
use Rattle.disjoint.proofs.keeps.keeps_pairs.Goals as goal

pub returns : goal.returns
returns c =
    let a = c.args in
    let qs = (statement_at a.file.now a.at).pairs in
    let test = keeps_at (floats_at a.file.now a.statements.now (statement_at a.file.now a.at).hyps) a.sets.now a.table.now in
    let chain = all_from_yields_List (λ i. test (get_or qs i (0, 0))) _ _ c.all.result c.all.ensures.ran (YieldsList-from_range 0 c.pairs.result (length qs) refl (omega (arith, c.pairs.ensures.0))) (λ x b q k. search (rules, tests, k)) in
    let told = chain ∙ all-indexed test qs (0, 0) in
    record { bytes = told; lists = keeps-told a.file.now a.statements.now a.at a.sets.now a.table.now told }
