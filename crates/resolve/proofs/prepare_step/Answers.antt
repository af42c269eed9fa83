-- `resolve::prepare_step` meets its contract: 26, then the statement that is found, or the local label (`token-ambiguous`, `token-named`, `token-local`).
use Rattle.resolve.proofs.Resolving.{token-ambiguous, token-local, token-named}
use borrow.Author.Rules.{rules}
use Rattle.resolve.proofs.prepare_step.Goals as goal

pub is_ambiguous-requires : goal.is_ambiguous-requires
is_ambiguous-requires c = record { labelled = c.requires.labelled; colon_value = search rules }

pub returns-then-is_ambiguous : goal.returns-then-is_ambiguous
returns-then-is_ambiguous c = let a = c.args in token-ambiguous a.p.0 a.text.now a.locals.now a.count c.is_ambiguous.ensures c.if-is_ambiguous.true

pub find_label-requires : goal.find_label-requires
find_label-requires c = c.requires.labelled

pub returns-in-Some : goal.returns-in-Some
returns-in-Some c = let a = c.args in token-named a.p.0 a.text.now a.locals.now a.count c.is_ambiguous.ensures c.if-is_ambiguous.false c.label-label.ensures c.find_label.ensures c.in-Some.is c.prepare_statement.ensures

pub returns-in-None : goal.returns-in-None
returns-in-None c = let a = c.args in token-local a.p.0 a.text.now a.locals.now a.count c.is_ambiguous.ensures c.if-is_ambiguous.false c.label-label.ensures c.find_label.ensures c.in-None.is c.has_local.ensures c.prepare_local.ensures
