-- `engine::hypothesis::prepare_hypothesis` meets its contract: 44, 43 and the rest in the order of the definition (`prepares-many`, `prepares-full`, `prepares-ready`).
use Rattle.std.proofs.Common.{◌≡◌, Some, None}
use Rattle.std.proofs.lemmas.Result.{err_from_is_err_and}
use Rattle.machine.specs.declared.Refusal.TheVariants.{PoolFull}
use Rattle.engine.proofs.Hypotheses.{maps-float, prepares-full, prepares-many, prepares-ready}
use Rattle.packed.proofs.Joining.{grown-of-to}
use native.Mathlib.Omega.{arith}
use Rattle.engine.proofs.hypothesis.prepare_hypothesis.Goals as goal

pub returns-then-c-gt256 : goal.returns-then-c-gt256
returns-then-c-gt256 c =
    let a = c.args in
    prepares-many a.file.now a.symbols.now a.at a.numbers.now a.count a.pool.now a.used a.limit (maps-float a.file.now a.at c.map_float-c.ensures) c.if-c-gt256.true

pub returns : goal.returns
returns c =
    let a = c.args in
    let w : c.do_substitute_raw.result ≡ Some c.in_ok-end.end = grind arith in
    let add = c.do_substitute_raw.ensures.bytes in
    let said = grown-of-to _ a.used a.limit _ (rw w at add.answers) in
    prepares-ready a.file.now a.symbols.now a.at a.numbers.now a.count a.pool.now a.used a.limit (maps-float a.file.now a.at c.map_float-c.ensures) (omega arith) (omega arith) add.sized (let e = said.0 in omega arith) said.1 (rw w at c.do_substitute_raw.ensures.lists) add.kept add.past

pub returns-in_err-end : goal.returns-in_err-end
returns-in_err-end c =
    let a = c.args in
    let w : c.do_substitute_raw.result ≡ None = grind (arith, c.in_err-end.was) in
    let e : c.in_err-end.field-0.0 ≡ PoolFull = grind (arith, c.in_err-end.was) in
    let p = err_from_is_err_and c.from_residual.result c.from_residual.ensures.1 in
    let add = c.do_substitute_raw.ensures.bytes in
    rw (p.1, p.2, e)
    (prepares-full a.file.now a.symbols.now a.at a.numbers.now a.count a.pool.now a.used a.limit (maps-float a.file.now a.at c.map_float-c.ensures) (omega arith) (omega arith) add.sized (rw w at c.do_substitute_raw.ensures.lists) add.kept add.past)
