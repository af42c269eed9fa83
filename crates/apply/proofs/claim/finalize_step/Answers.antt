-- `apply::claim::finalize_step` meets its contract: 43 (`finalizes-full`), or the claim is pushed (`finalizes-to`).
use Rattle.std.proofs.Common.{◌≡◌, Some, None}
use Rattle.std.proofs.lemmas.Result.{err_from_is_err_and}
use Rattle.machine.specs.declared.Refusal.TheVariants.{PoolFull}
use Rattle.packed.proofs.Joining.{grown-of-to}
use native.Mathlib.Omega.{arith}
use Rattle.apply.proofs.OneHyp.{ranged-imaged}
use Rattle.apply.proofs.Claims.{finalizes-full, finalizes-to}
use Rattle.apply.proofs.claim.finalize_step.Goals as goal

pub do_substitute-requires : goal.do_substitute-requires
do_substitute-requires c = record { used_le_limit = c.requires.used_le_pool.0; imaged = ranged-imaged _ _ _ c.requires.ranged }

pub push-requires : goal.push-requires
push-requires c = c.requires.used_le_pool.1

pub returns-in_err-to : goal.returns-in_err-to
returns-in_err-to c =
    let w : c.do_substitute.result ≡ None = grind (arith, c.in_err-to.was) in
    let e : c.in_err-to.field-0.0 ≡ PoolFull = grind (arith, c.in_err-to.was) in
    let p = err_from_is_err_and c.from_residual.result c.from_residual.ensures.1 in
    rw (p.1, p.2, e)
    (finalizes-full c.requires.used_le_pool.0.1 c.do_substitute.ensures.bytes.sized (rw w at c.do_substitute.ensures.lists))

pub returns : goal.returns
returns c =
    let w : c.do_substitute.result ≡ Some c.in_ok-to.to = grind arith in
    let add = c.do_substitute.ensures.bytes in
    let said = grown-of-to _ _ _ _ (rw w at add.answers) in
    finalizes-to c.requires.used_le_pool.0.1 add.sized (let e = said.0 in omega arith) (rw w at c.do_substitute.ensures.lists) c.claim_row-row.ensures c.push.ensures
