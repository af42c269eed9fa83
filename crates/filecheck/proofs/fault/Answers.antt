-- `filecheck::fault` meets its contract: the refusals are tried in their order; a test that fails is skipped (`unless-skip`), the first that holds decides (`unless-stop`).
use Rattle.frames.proofs.Chains.{unless-skip, unless-stop}
use Rattle.frames.specs.Verdict.{fault_at}
use mathlib.Core.Path.{◌∙◌, refl, sym}
use Rattle.filecheck.proofs.fault.Goals as goal

pub returns-then-bad_record : goal.returns-then-bad_record
unfolding fault_at
returns-then-bad_record c = (unless-stop _ (sym c.bad_record.ensures ∙ c.if-bad_record.true) refl)

pub returns-then-too_many : goal.returns-then-too_many
unfolding fault_at
returns-then-too_many c = (unless-skip _ (sym c.bad_record.ensures ∙ c.if-bad_record.false) (unless-stop _ (sym c.too_many.ensures ∙ c.if-too_many.true) refl))

pub returns-then-bad_symbol : goal.returns-then-bad_symbol
unfolding fault_at
returns-then-bad_symbol c = (unless-skip _ (sym c.bad_record.ensures ∙ c.if-bad_record.false) (unless-skip _ (sym c.too_many.ensures ∙ c.if-too_many.false) (unless-stop _ (sym c.bad_symbol.ensures ∙ c.if-bad_symbol.true) refl)))

pub returns-then-bad_label : goal.returns-then-bad_label
unfolding fault_at
returns-then-bad_label c = (unless-skip _ (sym c.bad_record.ensures ∙ c.if-bad_record.false) (unless-skip _ (sym c.too_many.ensures ∙ c.if-too_many.false) (unless-skip _ (sym c.bad_symbol.ensures ∙ c.if-bad_symbol.false) (unless-stop _ (sym c.bad_label.ensures ∙ c.if-bad_label.true) refl))))

pub returns-then-bad_reference : goal.returns-then-bad_reference
unfolding fault_at
returns-then-bad_reference c = (unless-skip _ (sym c.bad_record.ensures ∙ c.if-bad_record.false) (unless-skip _ (sym c.too_many.ensures ∙ c.if-too_many.false) (unless-skip _ (sym c.bad_symbol.ensures ∙ c.if-bad_symbol.false) (unless-skip _ (sym c.bad_label.ensures ∙ c.if-bad_label.false) (unless-stop _ (sym c.bad_reference.ensures ∙ c.if-bad_reference.true) refl)))))

pub returns-then-bad_frame : goal.returns-then-bad_frame
unfolding fault_at
returns-then-bad_frame c = (unless-skip _ (sym c.bad_record.ensures ∙ c.if-bad_record.false) (unless-skip _ (sym c.too_many.ensures ∙ c.if-too_many.false) (unless-skip _ (sym c.bad_symbol.ensures ∙ c.if-bad_symbol.false) (unless-skip _ (sym c.bad_label.ensures ∙ c.if-bad_label.false) (unless-skip _ (sym c.bad_reference.ensures ∙ c.if-bad_reference.false) (unless-stop _ (sym c.bad_frame.ensures ∙ c.if-bad_frame.true) refl))))))

pub returns-then-no_proof : goal.returns-then-no_proof
unfolding fault_at
returns-then-no_proof c = (unless-skip _ (sym c.bad_record.ensures ∙ c.if-bad_record.false) (unless-skip _ (sym c.too_many.ensures ∙ c.if-too_many.false) (unless-skip _ (sym c.bad_symbol.ensures ∙ c.if-bad_symbol.false) (unless-skip _ (sym c.bad_label.ensures ∙ c.if-bad_label.false) (unless-skip _ (sym c.bad_reference.ensures ∙ c.if-bad_reference.false) (unless-skip _ (sym c.bad_frame.ensures ∙ c.if-bad_frame.false) (unless-stop _ (sym c.no_proof.ensures ∙ c.if-no_proof.true) refl)))))))

pub returns : goal.returns
unfolding fault_at
returns c = (unless-skip _ (sym c.bad_record.ensures ∙ c.if-bad_record.false) (unless-skip _ (sym c.too_many.ensures ∙ c.if-too_many.false) (unless-skip _ (sym c.bad_symbol.ensures ∙ c.if-bad_symbol.false) (unless-skip _ (sym c.bad_label.ensures ∙ c.if-bad_label.false) (unless-skip _ (sym c.bad_reference.ensures ∙ c.if-bad_reference.false) (unless-skip _ (sym c.bad_frame.ensures ∙ c.if-bad_frame.false) (unless-skip _ (sym c.no_proof.ensures ∙ c.if-no_proof.false) refl)))))))
