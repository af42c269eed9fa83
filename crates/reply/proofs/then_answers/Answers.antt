-- `reply::then_answers` meets its contract: after i statements the lines of the $p among them are in the buffer (`SoFar`).
use mathlib.Core.Path.{sym, ◌∙◌}
use Prim.Native.Nat.{◌-◌}
use native.Mathlib.Omega.{arith}
use Rattle.facts.proofs.GoodFacts.{good-facts}
use Rattle.resolve.proofs.Filing.{filed-length}
use Rattle.reply.proofs.Lengths.{answers-few}
use Rattle.reply.proofs.SoFar.{so-far-none, so-far-next, so_far_more, so-far-other, so-far-done, next_word}
use borrow.Author.Rules.{rules}
use Rattle.reply.proofs.then_answers.Goals as goal

pub loop-i-init : goal.loop-i-init
loop-i-init c = so-far-none _ _ _

pub overflow_add-i : goal.overflow_add-i
overflow_add-i c = let few = (good-facts _ c.requires.listed.good).statement_count in let l = filed-length c.requires.listed in search (rules, few, l, c.loop-i-test.true)

pub is_provable-requires : goal.is_provable-requires
is_provable-requires c = (c.requires.listed, c.loop-i-test.true)

pub bounds-answers-taken : goal.bounds-answers-taken
bounds-answers-taken c = omega (arith, (so-far-next c.loop-i.invariant (omega (arith, filed-length c.requires.listed, c.loop-i-test.true)) (sym c.is_provable.ensures ∙ c.if-is_provable.true)).0, c.requires.answered.many)

pub then_answer-done-requires : goal.then_answer-done-requires
then_answer-done-requires c = record { listed = (c.requires.listed, c.loop-i-test.true); answered = next_word c.requires.answered (so-far-next c.loop-i.invariant (omega (arith, filed-length c.requires.listed, c.loop-i-test.true)) (sym c.is_provable.ensures ∙ c.if-is_provable.true)) }

pub overflow_add-taken : goal.overflow_add-taken
overflow_add-taken c = let few = answers-few _ c.requires.listed.good in let n = (so-far-next c.loop-i.invariant (omega (arith, filed-length c.requires.listed, c.loop-i-test.true)) (sym c.is_provable.ensures ∙ c.if-is_provable.true)).0 in search (rules, few, n)

pub loop-i-smaller-then-is_provable : goal.loop-i-smaller-then-is_provable
loop-i-smaller-then-is_provable c = omega (arith, c.loop-i-test.true)

pub loop-i-preserved-then-is_provable : goal.loop-i-preserved-then-is_provable
loop-i-preserved-then-is_provable c = so_far_more c.loop-i.invariant (omega (arith, filed-length c.requires.listed, c.loop-i-test.true)) (sym c.is_provable.ensures ∙ c.if-is_provable.true) c.then_answer-done.ensures

pub loop-i-smaller : goal.loop-i-smaller
loop-i-smaller c = omega (arith, c.loop-i-test.true)

pub loop-i-preserved : goal.loop-i-preserved
loop-i-preserved c = so-far-other c.loop-i.invariant (omega (arith, filed-length c.requires.listed, c.loop-i-test.true)) (sym c.is_provable.ensures ∙ c.if-is_provable.false)

pub shape_of-out : goal.shape_of-out
shape_of-out c = c.loop-i.invariant.adds.sized

pub returns : goal.returns
returns c = so-far-done c.loop-i.invariant (omega (arith, filed-length c.requires.listed, c.loop-i-test.false))
