-- `disjoint::keeps::is_mandatory` meets its contract: the chain asks each listed hypothesis, by its index (`any-indexed`).
use mathlib.Core.Path.{◌∙◌, refl}
use Rattle.std.proofs.Common.{rules, tests, length, get_or, arith}
use Rattle.std.proofs.lemmas.Iterator.{YieldsList-from_range}
use Rattle.std.proofs.lemmas.Iterator.Search.{any_from_yields_List}
use Rattle.frames.proofs.Words.{any-indexed}
use Rattle.frames.specs.Table.{float_of}
use Rattle.frames.specs.Database.{statement_at}
use Rattle.disjoint.proofs.Mandatory.{floats-among, mandatory-told}
use Rattle.disjoint.proofs.keeps.is_mandatory.Goals as goal

pub returns : goal.returns
returns c =
    let a = c.args in
    let hs = (statement_at a.file.now a.at).hyps in
    let test = float_of a.file.now a.statements.now a.v.0 in
    let chain = any_from_yields_List (λ j. test (get_or hs j 0)) _ _ c.any.result c.any.ensures.ran (YieldsList-from_range 0 c.hypotheses.result (length hs) refl (omega (arith, c.hypotheses.ensures.0))) (λ x b q k. search (rules, tests, k)) in
    let told = chain ∙ any-indexed test hs 0 ∙ floats-among a.file.now a.statements.now a.v.0 hs in
    record { bytes = told; lists = mandatory-told a.file.now a.statements.now a.at a.v.0 told }
