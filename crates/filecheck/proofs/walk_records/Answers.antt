-- `filecheck::walk_records` meets its contract: the invariant is `Walking`: the definition from here on, with what has been read, is the definition of the whole file. The measure is what is
-- left of the file; a good record moves the walk on by at least 6 bytes (`next-further`).
use Prim.Native.Nat.{◌-◌}
use Rattle.filecheck.proofs.Walking.{next-further, next-inside, statements-length, symbols-length, walking-ends, walking-more, walking-none, walking-stops}
use mathlib.Core.Path.{◌∙◌, sym}
use native.Mathlib.Omega.{arith}
use Rattle.filecheck.proofs.walk_records.Goals as goal

pub loop-st-init : goal.loop-st-init
loop-st-init c = let a = c.args in walking-none a.file.now a.symbols.now a.statements.now c.requires.0

pub overflow_cast-at : goal.overflow_cast-at
overflow_cast-at c = omega (arith, c.loop-st.invariant.inside)

pub shape_of-symbols-then-len-at : goal.shape_of-symbols-then-len-at
shape_of-symbols-then-len-at c = let a = c.args in let l = c.loop-st in symbols-length a.file.now a.symbols.now a.statements.now l.symbols l.statements l.st l.invariant c.requires.1.0

pub shape_of-statements-then-len-at : goal.shape_of-statements-then-len-at
shape_of-statements-then-len-at c = let a = c.args in let l = c.loop-st in statements-length a.file.now a.symbols.now a.statements.now l.symbols l.statements l.st l.invariant c.requires.1.1

pub returns-then-len-at : goal.returns-then-len-at
returns-then-len-at c = let a = c.args in let l = c.loop-st in walking-ends a.file.now a.symbols.now a.statements.now l.symbols l.statements l.st l.invariant c.if-len-at.true c.at_end.result c.at_end.ensures

pub judge-requires : goal.judge-requires
judge-requires c = let a = c.args in let l = c.loop-st in let s = symbols-length a.file.now a.symbols.now a.statements.now l.symbols l.statements l.st l.invariant c.requires.1.0 in let t = statements-length a.file.now a.symbols.now a.statements.now l.symbols l.statements l.st l.invariant c.requires.1.1 in (omega arith, omega arith)

pub shape_of-symbols-in-Some : goal.shape_of-symbols-in-Some
shape_of-symbols-in-Some c = let a = c.args in let l = c.loop-st in symbols-length a.file.now a.symbols.now a.statements.now l.symbols l.statements l.st l.invariant c.requires.1.0

pub shape_of-statements-in-Some : goal.shape_of-statements-in-Some
shape_of-statements-in-Some c = let a = c.args in let l = c.loop-st in statements-length a.file.now a.symbols.now a.statements.now l.symbols l.statements l.st l.invariant c.requires.1.1

pub returns-in-Some : goal.returns-in-Some
returns-in-Some c = let a = c.args in let l = c.loop-st in walking-stops a.file.now a.symbols.now a.statements.now l.symbols l.statements l.st l.invariant c.if-len-at.false c.in-Some.why (sym c.in-Some.is ∙ c.judge.ensures)

pub advance-st-requires : goal.advance-st-requires
advance-st-requires c = let a = c.args in let l = c.loop-st in let n = next-inside a.file.now a.symbols.now a.statements.now l.symbols l.statements l.st l.invariant (sym c.in-None.is ∙ c.judge.ensures) in let v = l.invariant in (omega (arith, v), (omega (arith, v), omega arith))

pub loop-st-smaller : goal.loop-st-smaller
loop-st-smaller c = let a = c.args in let l = c.loop-st in let n = next-further a.file.now a.symbols.now a.statements.now l.symbols l.statements l.st l.invariant (sym c.in-None.is ∙ c.judge.ensures) in let e = c.advance-st.ensures.at_next in let i = c.if-len-at.false in omega arith

pub loop-st-preserved : goal.loop-st-preserved
loop-st-preserved c = let a = c.args in let l = c.loop-st in walking-more a.file.now a.symbols.now a.statements.now l.symbols l.statements l.st l.invariant c.requires.1.0 c.requires.1.1 c.if-len-at.false (sym c.in-None.is ∙ c.judge.ensures) _ _ _ c.advance-st.ensures
