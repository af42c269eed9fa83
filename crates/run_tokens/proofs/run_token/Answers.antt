-- `run_tokens::run_token` meets its contract, by what the token names (`token-place`, `token-hypothesis`, `token-frame`, `token-refused`).
use Rattle.packed.specs.Pool.{range}
use Rattle.run.proofs.Running.{room-there, images-there, pool-there, tree-there}
use Rattle.run_tokens.proofs.Tokening.{token-place, token-hypothesis, token-frame, token-refused}
use native.Mathlib.Omega.{arith}
use Rattle.std.proofs.Common.{ap, ◌∙◌, Ok}
use Rattle.std.proofs.lemmas.Result.{err_from_is_err_and}
use borrow.Author.Rules.{rules}
use Rattle.run_tokens.proofs.run_token.Goals as goal

pub prepare_step-requires : goal.prepare_step-requires
prepare_step-requires c = record { labelled = c.requires.labelled; count_bound = search rules }

pub run_place-requires : goal.run_place-requires
run_place-requires c = let r = c.requires.running in record { used_le_pool = room-there r; ranged = images-there r; recorded = tree-there r }

pub push_hypothesis-requires : goal.push_hypothesis-requires
push_hypothesis-requires c = record { count_bound = pool-there c.requires.running; stack = (room-there c.requires.running).1 }

pub execute_step-requires : goal.execute_step-requires
execute_step-requires c = let r = c.requires.running in record { used_le_pool = room-there r; ranged = (images-there r).0; recorded = tree-there r }

pub returns-in-Place : goal.returns-in-Place
unfolding range
returns-in-Place c = token-place c.requires.running c.mark_span-mark.ensures c.prepare_step.ensures (c.in_ok-k.was ∙ ap Ok c.in-Place.is) (omega (arith, c.requires.running.sized.seats)) c.run_place.ensures

pub returns-in-Hypothesis : goal.returns-in-Hypothesis
unfolding range
returns-in-Hypothesis c = token-hypothesis c.requires.running c.mark_span-mark.ensures c.prepare_step.ensures (c.in_ok-k.was ∙ ap Ok c.in-Hypothesis.is) c.statement_offset-at.ensures c.push_hypothesis.ensures

pub returns-in-Frame : goal.returns-in-Frame
unfolding range
returns-in-Frame c = token-frame c.requires.running c.mark_span-mark.ensures c.prepare_step.ensures (c.in_ok-k.was ∙ ap Ok c.in-Frame.is) (omega (arith, c.requires.running.sized.seats)) c.execute_step.ensures

pub returns-in_err-k : goal.returns-in_err-k
unfolding range
returns-in_err-k c =
    let p = err_from_is_err_and c.from_residual.result c.from_residual.ensures.1 in
    rw (p.1, p.2) (token-refused c.requires.running c.mark_span-mark.ensures c.prepare_step.ensures c.in_err-k.was)
