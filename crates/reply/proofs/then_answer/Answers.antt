-- `reply::then_answer` meets its contract: the parts of the word are those of the answer (`line-is`), and the line is put where the last one ends.
use Rattle.lines.proofs.Extending.{extends-full, extends-to, extends-same}
use Rattle.reply.proofs.LineLaws.{line-is}
use Rattle.reply.proofs.then_answer.Goals as goal

pub returns : goal.returns
returns c = rw c.in_ok-at.was (extends-same (line-is c.requires.listed.0 _ c.requires.listed.1 c.statement_offset-offset.ensures c.label-label.ensures c.requires.answered c.number_in-number.ensures c.place_in-place.ensures c.steps_in-steps.ensures) (extends-to c.put_answer.ensures))

pub returns-in_err-at : goal.returns-in_err-at
returns-in_err-at c =
    rw c.from_residual.ensures
    (rw c.in_err-at.was (extends-full _ _))
