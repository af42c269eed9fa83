-- `walk::answer_next` meets its contract.
use Rattle.walk.proofs.Next.{told-small, next-laid, next-full, next-other}
use native.Mathlib.Omega.{arith}
use borrow.Author.Rules.{rules}
use Rattle.walk.proofs.answer_next.Goals as goal

pub answer_statement-told-requires : goal.answer_statement-told-requires
answer_statement-told-requires c = record { labelled = c.requires.labelled; filed = c.requires.filed; ours = c.requires.ours }

pub pack-requires : goal.pack-requires
pack-requires c = let s = told-small c.requires.filed _ _ c.answer_statement-told.ensures in (omega (arith, s.0), (omega (arith, s.1.0), omega (arith, s.1.1)))

pub offset_bounds-answers-count : goal.offset_bounds-answers-count
offset_bounds-answers-count c = search (rules, c.requires.few.1)

pub bounds-answers-count : goal.bounds-answers-count
bounds-answers-count c = search (rules, c.if-count-answers.true)

pub overflow_add-result : goal.overflow_add-result
overflow_add-result c = search (rules, c.requires.few.1)

pub returns-then-count-answers : goal.returns-then-count-answers
returns-then-count-answers c = next-laid c.requires.filed c.requires.few.0 c.statement_offset-at.ensures c.kind.ensures c.if-kind-eq5.true c.if-count-answers.true c.answer_statement-told.ensures c.pack.ensures

pub overflow_add-result-then-kind-eq5 : goal.overflow_add-result-then-kind-eq5
overflow_add-result-then-kind-eq5 c = search (rules, c.requires.few.1)

pub returns-then-kind-eq5 : goal.returns-then-kind-eq5
returns-then-kind-eq5 c = next-full c.requires.filed c.requires.few.0 c.statement_offset-at.ensures c.kind.ensures c.if-kind-eq5.true (omega (arith, c.if-count-answers.false))

pub returns : goal.returns
returns c = next-other c.requires.filed c.requires.few.0 c.statement_offset-at.ensures c.kind.ensures c.if-kind-eq5.false
