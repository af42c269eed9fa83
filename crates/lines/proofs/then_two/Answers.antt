-- `lines::then_two` meets its contract: the four texts of `line`, one after another.
use mathlib.Core.Path.{◌∙◌}
use Rattle.lines.proofs.then_two.Goals as goal

pub returns : goal.returns
returns c =
    record {
      sized = c.then_text.ensures.sized ∙ c.then_number-second.ensures.sized ∙ c.then_text-space.ensures.sized ∙ c.then_number-first.ensures.sized;
      adds = λ bytes at before a. c.then_text.ensures.adds _ at before (c.then_number-second.ensures.adds _ at before (c.then_text-space.ensures.adds _ at before (c.then_number-first.ensures.adds bytes at before a)));
    }
