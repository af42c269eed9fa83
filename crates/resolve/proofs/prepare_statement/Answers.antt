-- `resolve::prepare_statement` meets its contract: 29, 30, and then its kind (`statement-later`, `statement-closed`, `statement-hypothesis`, `statement-frame`).
use Rattle.resolve.proofs.Resolving.{at-offset-end, at-offset-kind, statement-closed, statement-frame, statement-hypothesis, statement-later}
use mathlib.Core.Path.{◌∙◌, sym}
use native.Mathlib.Omega.{arith}
use Rattle.resolve.proofs.prepare_statement.Goals as goal

pub returns-then-own-s : goal.returns-then-own-s
returns-then-own-s c = let a = c.args in statement-later a.file.now a.statements.now a.p.0 a.s (omega arith)

pub returns-then-out_of_scope : goal.returns-then-out_of_scope
returns-then-out_of_scope c = let a = c.args in statement-closed a.file.now a.statements.now a.p.0 a.s (at-offset-kind a.file.now c.kind-kind.ensures c.statement_offset-at.ensures) (at-offset-end a.file.now c.scope_end.ensures c.statement_offset-at.ensures) (omega arith) (sym c.out_of_scope.ensures ∙ c.if-out_of_scope.true)

pub returns-then-is_hypothesis : goal.returns-then-is_hypothesis
returns-then-is_hypothesis c = let a = c.args in statement-hypothesis a.file.now a.statements.now a.p.0 a.s (at-offset-kind a.file.now c.kind-kind.ensures c.statement_offset-at.ensures) (at-offset-end a.file.now c.scope_end.ensures c.statement_offset-at.ensures) (omega arith) (sym c.out_of_scope.ensures ∙ c.if-out_of_scope.false) (sym c.is_hypothesis.ensures ∙ c.if-is_hypothesis.true)

pub returns : goal.returns
returns c = let a = c.args in statement-frame a.file.now a.statements.now a.p.0 a.s (at-offset-kind a.file.now c.kind-kind.ensures c.statement_offset-at.ensures) (at-offset-end a.file.now c.scope_end.ensures c.statement_offset-at.ensures) (omega arith) (sym c.out_of_scope.ensures ∙ c.if-out_of_scope.false) (sym c.is_hypothesis.ensures ∙ c.if-is_hypothesis.false)
