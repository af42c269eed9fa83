-- `engine::roster::place_frame` meets its contract: the row of an assertion takes a place (`frame-placed`).
use Rattle.bitset.specs.Sets.{empty}
use Rattle.engine.proofs.Rostering.{frame-placed}
use lib.ListN.{length}
use mathlib.Core.Path.{refl, ap}
use Rattle.engine.proofs.roster.place_frame.Goals as goal

pub returns : goal.returns
unfolding empty
returns c = frame-placed c.add_place.ensures refl refl (ap length c.new.ensures.is)
