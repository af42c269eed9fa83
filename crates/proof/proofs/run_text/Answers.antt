-- `proof::run_text` meets its contract.
use Rattle.std.proofs.lemmas.Result.{err_from_is_err_and}
use mathlib.Core.Path.{refl, ◌∙◌}
use Rattle.run.specs.Reads.{beginning}
use Rattle.proof.proofs.Whole.{text-going, text-over}
use native.Mathlib.Omega.{arith}
use Rattle.proof.proofs.run_text.Goals as goal

pub read_text-requires : goal.read_text-requires
read_text-requires c = record { labelled = c.requires.labelled; running = c.requires.running; low = ((beginning, refl), refl) }

pub end_text-requires : goal.end_text-requires
end_text-requires c = let is = c.in_ok-s.was in let few = c.requires.running.checked.text_few in record { labelled = c.requires.labelled; running = c.read_text.ensures.running _ is; low = ((c.read_text.ensures.low _ is, omega (arith, c.read_text.ensures.few _ is)), c.read_text.ensures.begun _ is) }

pub returns-in_err-s : goal.returns-in_err-s
returns-in_err-s c =
    let p = err_from_is_err_and c.from_residual.result c.from_residual.ensures.1 in rw (p.1, p.2)
    (text-over (rw c.in_err-s.was at c.read_text.ensures))

pub returns : goal.returns
returns c = text-going (rw c.in_ok-s.was at c.read_text.ensures) c.end_text.ensures
