-- `run_tokens::on_normal` meets its contract: `?` (`normal-unknown`), or its step is refused (`normal-refused`) or completed (`normal-ran`).
use mathlib.Core.Path.{sym, ◌∙◌}
use Rattle.run.proofs.Running.{running-on}
use Rattle.run_tokens.proofs.Tokening.{label-there, normal-unknown, normal-ran, normal-refused}
use Rattle.run_tokens.proofs.on_normal.Goals as goal

pub returns-then-is_token : goal.returns-then-is_token
returns-then-is_token c = normal-unknown c.requires.running (sym c.is_token.ensures ∙ c.if-is_token.true)

pub run_token-requires : goal.run_token-requires
run_token-requires c = record { labelled = c.requires.labelled; running = c.requires.running; within = c.requires.within.0 }

pub after_step-requires : goal.after_step-requires
after_step-requires c = record { limit_in_bounds = (label-there (running-on c.requires.running c.run_token.ensures c.in-Ok.is)).0; counted = (label-there (running-on c.requires.running c.run_token.ensures c.in-Ok.is)).1; within = (c.requires.within.0, c.requires.running.checked.text_few) }

pub returns-in-Ok : goal.returns-in-Ok
returns-in-Ok c = normal-ran c.requires.running (sym c.is_token.ensures ∙ c.if-is_token.false) c.run_token.ensures c.in-Ok.is c.after_step.ensures

pub returns-in-Err : goal.returns-in-Err
returns-in-Err c = normal-refused c.requires.running (sym c.is_token.ensures ∙ c.if-is_token.false) c.run_token.ensures c.in-Err.is
