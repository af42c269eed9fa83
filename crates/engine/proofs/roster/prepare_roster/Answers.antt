-- `engine::roster::prepare_roster` meets its contract, by what the label names (`roster-hypothesis`, `roster-frame`, `roster-refused`); it names no place (`roster-place`).
use Rattle.std.proofs.lemmas.Result.{err_from_is_err_and}
use Rattle.std.proofs.Common.{refl, ap, ◌∙◌, Ok}
use Rattle.engine.proofs.Rostering.{roster-frame, roster-hypothesis, roster-place, roster-refused}
use Rattle.engine.proofs.roster.prepare_roster.Goals as goal

pub prepare_label-requires : goal.prepare_label-requires
prepare_label-requires c = c.requires.labelled

pub returns-in-Hypothesis : goal.returns-in-Hypothesis
returns-in-Hypothesis c = roster-hypothesis c.prepare_label.ensures (c.in_ok-h.was ∙ ap Ok c.in-Hypothesis.is) c.statement_offset-at.ensures c.place_hypothesis.ensures

pub returns-in-Frame : goal.returns-in-Frame
returns-in-Frame c = roster-frame c.prepare_label.ensures (c.in_ok-h.was ∙ ap Ok c.in-Frame.is) c.requires.bounded.0 c.place_frame.ensures refl

pub returns-in-Place : goal.returns-in-Place
returns-in-Place c = roster-place c.prepare_label.ensures (c.in_ok-h.was ∙ ap Ok c.in-Place.is)

pub returns-in_err-h : goal.returns-in_err-h
returns-in_err-h c =
    let p = err_from_is_err_and c.from_residual.result c.from_residual.ensures.1 in
    rw (p.1, p.2) (roster-refused c.prepare_label.ensures c.in_err-h.was)
