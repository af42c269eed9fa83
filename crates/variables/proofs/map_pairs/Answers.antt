-- `variables::map_pairs` meets its contract: after i pairs the members of those before the i-th are numbered (`MapsAll`).
use Rattle.frames.specs.Database.{statement_at}
use Rattle.machine.specs.Run.{members}
use Rattle.variables.proofs.Pairs.{all_more, all_none, members-all, members-length, members-more}
use lib.ListN.{length-take, take}
use native.Mathlib.Omega.{arith}
use Rattle.variables.proofs.map_pairs.Goals as goal

pub loop-i-init : goal.loop-i-init
unfolding members
loop-i-init c = all_none c.args.numbers.now c.args.count

pub map_var-left-requires : goal.map_var-left-requires
map_var-left-requires c =
    let a = c.args in
    let i = c.loop-i.i in
    let qs = (statement_at a.file.now a.at).pairs in
    let few = c.loop-i.invariant.few in
    let long = members-length (take i qs) in
    let taken = length-take i qs in
    let most = c.pairs-i-end.ensures.1 in
    let count = c.pairs-i-end.ensures.0 in
    omega arith

pub map_var-c-requires : goal.map_var-c-requires
map_var-c-requires c =
    let a = c.args in
    let i = c.loop-i.i in
    let qs = (statement_at a.file.now a.at).pairs in
    let few = c.loop-i.invariant.few in
    let long = members-length (take i qs) in
    let taken = length-take i qs in
    let most = c.pairs-i-end.ensures.1 in
    let count = c.pairs-i-end.ensures.0 in
    let one = c.map_var-left.ensures.few in
    omega arith

pub loop-i-preserved : goal.loop-i-preserved
loop-i-preserved c =
    let a = c.args in
    let i = c.loop-i.i in
    let qs = (statement_at a.file.now a.at).pairs in
    let few = c.loop-i.invariant.few in
    let long = members-length (take i qs) in
    let taken = length-take i qs in
    let most = c.pairs-i-end.ensures.1 in
    let count = c.pairs-i-end.ensures.0 in
    rw (members-more qs i _ _ (omega arith) c.pair_of-pair.ensures) (all_more (all_more c.loop-i.invariant c.map_var-left.ensures) c.map_var-c.ensures)

pub returns : goal.returns
returns c =
    let a = c.args in
    let qs = (statement_at a.file.now a.at).pairs in
    let count = c.pairs-i-end.ensures.0 in
    rw (members-all qs c.loop-i.i (omega arith)) at c.loop-i.invariant
