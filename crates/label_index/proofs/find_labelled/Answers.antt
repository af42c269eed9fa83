-- `label_index::find_labelled` meets its contract. The invariant: no statement from the word at hand on bears the label (`Sought`). The word falls.
use Rattle.frames.proofs.Found.{same_true}
use Rattle.frames.specs.Database.{statement_at}
use native.Mathlib.Omega.{arith}
use mathlib.Core.Path.{◌∙◌, ap}
use lib.ListN.{get_or}
use Rattle.label_index.proofs.Chain.{sought-head, sought-next, sought-nowhere}
use Rattle.label_index.proofs.find_labelled.Goals as goal

pub loop-word-init : goal.loop-word-init
loop-word-init c = sought-head c.args.file.now c.args.statements.now c.args.label.now c.requires (c.entry-word.ensures ∙ ap (λ b. get_or c.args.labels.now b 0) c.hash.ensures.0)

pub returns-then-same_bytes : goal.returns-then-same_bytes
unfolding statement_at
returns-then-same_bytes c = (omega (arith, c.loop-word.invariant.few, c.loop-word-test.true), same_true _ _ (cc))

pub loop-word-smaller : goal.loop-word-smaller
loop-word-smaller c = (sought-next c.args.file.now c.args.statements.now c.args.label.now c.requires c.loop-word.invariant (λ z. omega arith) (cc) c.entry-word-in-loop-word.ensures).1

pub loop-word-preserved : goal.loop-word-preserved
loop-word-preserved c = (sought-next c.args.file.now c.args.statements.now c.args.label.now c.requires c.loop-word.invariant (λ z. omega arith) (cc) c.entry-word-in-loop-word.ensures).0

pub returns : goal.returns
returns c = sought-nowhere c.args.file.now c.args.statements.now c.args.label.now c.loop-word.invariant (omega arith)
