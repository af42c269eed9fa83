-- `run_letters::on_letter` meets its contract: one match decides which letter it is.
use mathlib.Core.Path.{refl, sym, ◌∙◌}
use Rattle.run.proofs.Running.{images-there, places-there}
use Rattle.run.proofs.Lettering.{higher-small, ignored, last-small}
use Rattle.run_letters.proofs.on_letter.Goals as goal

pub last_letter-requires : goal.last_letter-requires
last_letter-requires c = record { running = c.requires.running; low = (c.requires.low.0, (last-small _ _ (sym c.in-Last.is ∙ c.letter.ensures), c.requires.low.1)) }

pub higher_letter-requires : goal.higher_letter-requires
higher_letter-requires c = (c.requires.low.0, higher-small _ _ (sym c.in-Higher.is ∙ c.letter.ensures))

pub save_letter-requires : goal.save_letter-requires
save_letter-requires c = let r = c.requires.running in record { limit_in_bounds = (places-there r, (images-there r).0.1.1.0); low = c.requires.low.0 }

pub returns-in-Last : goal.returns-in-Last
returns-in-Last c = rw (sym c.in-Last.is ∙ c.letter.ensures) at (c.last_letter.ensures c.args.saves)

pub returns-in-Higher : goal.returns-in-Higher
returns-in-Higher c = rw (sym c.letter.ensures ∙ c.in-Higher.is) (c.higher_letter.ensures.reads _ _ c.args.saves c.requires.running.sized)

pub returns-in-Save : goal.returns-in-Save
returns-in-Save c = rw (sym c.in-Save.is ∙ c.letter.ensures) at (c.save_letter.ensures.reads _ _ refl refl refl c.requires.running)

pub returns-in-Incomplete : goal.returns-in-Incomplete
returns-in-Incomplete c = rw (sym c.letter.ensures ∙ c.in-Incomplete.is) (c.incomplete_letter.ensures.reads _ _ c.args.c c.args.saves)

pub returns-in-Ignored : goal.returns-in-Ignored
returns-in-Ignored c = rw (sym c.letter.ensures ∙ c.in-Ignored.is) ((ignored c.requires.low.0).reads _ _ c.requires.running.sized)
