-- `frames_c::frames_check` meets its contract: the numbers are those of the check's verdict, and the tables are its tables.
use mathlib.Core.Path.{ap, ◌∙◌}
use Rattle.frames_c.specs.Answer.{answer_of}
use Rattle.frames_c.proofs.frames_check.Goals as goal

pub returns : goal.returns
returns c =
    record {
      answers = c.answer_of.ensures ∙ ap answer_of c.check.ensures.answers;
      symbols_laid = c.check.ensures.symbols_laid;
      statements_laid = c.check.ensures.statements_laid;
    }
