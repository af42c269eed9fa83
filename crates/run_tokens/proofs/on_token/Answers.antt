-- `run_tokens::on_token` meets its contract, by the mode (`token-first`, `token-normal`, `token-letters`); in the roster `)` alone (`token-closes`), or a label (`token-named`).
use mathlib.Core.Path.{sym, ◌∙◌}
use Rattle.packed.specs.Pool.{range}
use Rattle.run_tokens.proofs.Rostering.{roster-there, token-first, token-normal, token-closes, token-named, token-letters}
use Rattle.run_tokens.proofs.on_token.Goals as goal

pub on_first-requires : goal.on_first-requires
on_first-requires c = record { labelled = c.requires.labelled; running = c.requires.running; within = c.requires.within.0 }

pub on_normal-requires : goal.on_normal-requires
on_normal-requires c = record { labelled = c.requires.labelled; running = c.requires.running; within = c.requires.within.0 }

pub returns-then-is_token : goal.returns-then-is_token
returns-then-is_token c = token-closes c.requires.running c.in-Roster.is (sym c.is_token.ensures ∙ c.if-is_token.true)

pub prepare_roster-outcome-requires : goal.prepare_roster-outcome-requires
prepare_roster-outcome-requires c = let others = roster-there c.requires.running in record { labelled = c.requires.labelled; bounded = others.0; places = others.1 }

pub returns-in-Beginning : goal.returns-in-Beginning
returns-in-Beginning c = token-first c.requires.running c.in-Beginning.is c.on_first.ensures

pub returns-in-Normal : goal.returns-in-Normal
returns-in-Normal c = token-normal c.requires.running c.in-Normal.is c.on_normal.ensures

pub returns-else-is_token : goal.returns-else-is_token
unfolding range
returns-else-is_token c = token-named c.requires.running c.in-Roster.is (sym c.is_token.ensures ∙ c.if-is_token.false) c.prepare_roster-outcome.ensures c.in_roster.ensures

pub returns-in-Letters : goal.returns-in-Letters
returns-in-Letters c = token-letters c.requires.running c.in-Letters.is c.requires.within.1
