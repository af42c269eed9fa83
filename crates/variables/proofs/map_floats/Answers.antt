-- `variables::map_floats` meets its contract: after j hypotheses the variables of the $f before the j-th are numbered (`MapsAll`).
use Rattle.frames.specs.Database.{statement_at}
use Rattle.variables.proofs.Floats.{all_join, all_same, float-listed, floats-all, floats-few, floats-more}
use Rattle.variables.proofs.Pairs.{all_none}
use Rattle.variables.specs.Numbering.{floats_at}
use lib.ListN.{length-take, take}
use mathlib.Core.Path.{sym}
use native.Mathlib.Omega.{arith}
use Rattle.variables.proofs.map_floats.Goals as goal

pub loop-j-init : goal.loop-j-init
unfolding floats_at
loop-j-init c = all_none c.args.numbers.now c.args.count

pub map_float-c-requires : goal.map_float-c-requires
map_float-c-requires c =
    let a = c.args in
    let j = c.loop-j.j in
    let hs = (statement_at a.file.now a.at).hyps in
    let few = c.loop-j.invariant.few in
    let short = floats-few a.file.now a.statements.now (take j hs) in
    let taken = length-take j hs in
    let most = c.hypotheses-j-end.ensures.1 in
    let count = c.hypotheses-j-end.ensures.0 in
    omega arith

pub loop-j-preserved : goal.loop-j-preserved
loop-j-preserved c =
    let a = c.args in
    let j = c.loop-j.j in
    let hs = (statement_at a.file.now a.at).hyps in
    let few = c.loop-j.invariant.few in
    let short = floats-few a.file.now a.statements.now (take j hs) in
    let taken = length-take j hs in
    let most = c.hypotheses-j-end.ensures.1 in
    let count = c.hypotheses-j-end.ensures.0 in
    all_same (sym (floats-more a.file.now a.statements.now hs j _ (omega arith) c.hypothesis-h.ensures)) (all_join c.loop-j.invariant (all_same (float-listed a.file.now a.statements.now c.hypothesis-h.result.0 _ c.statement_offset.ensures) c.map_float-c.ensures))

pub returns : goal.returns
returns c =
    let a = c.args in
    let hs = (statement_at a.file.now a.at).hyps in
    let count = c.hypotheses-j-end.ensures.0 in
    all_same (floats-all a.file.now a.statements.now hs c.loop-j.j (omega arith)) c.loop-j.invariant
