-- `spell::text::label_of` meets its contract.
use Rattle.spell.proofs.text.label_of.Goals as goal

pub returns : goal.returns
returns c = cc
