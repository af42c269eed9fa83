-- `run_tokens::on_first` meets its contract: `(` alone (`first-opens`), or a normal token (`first-normal`).
use mathlib.Core.Path.{sym, ◌∙◌}
use Rattle.run_tokens.proofs.Rostering.{roster-there, first-opens, first-normal}
use Rattle.run_tokens.proofs.on_first.Goals as goal

pub preload-outcome-requires : goal.preload-outcome-requires
preload-outcome-requires c = let whole = roster-there c.requires.running in record { bounded = whole.0; places = whole.1 }

pub returns-then-is_token : goal.returns-then-is_token
returns-then-is_token c = first-opens c.requires.running (sym c.is_token.ensures ∙ c.if-is_token.true) c.statement_offset-at.ensures c.preload-outcome.ensures c.in_roster.ensures

pub on_normal-requires : goal.on_normal-requires
on_normal-requires c = record { labelled = c.requires.labelled; running = c.requires.running; within = c.requires.within }

pub returns : goal.returns
returns c = first-normal c.requires.running (sym c.is_token.ensures ∙ c.if-is_token.false) c.on_normal.ensures
