-- `rows::framing::are_given` meets its contract: the loop stops at the first member that fails. The invariant: the test of what is left of the list is the test of the whole (`AllSoFar`).
use Rattle.frames.proofs.Chains.{moved, told}
use Prim.Native.Nat.{ℕ}
use mathlib.Core.Path.{◌≡◌}
use mathlib.Core.List.{List}
use Rattle.frames.proofs.Loops.{all_done, all_more, all_none, all-stop, here-rows, length-rows}
use Rattle.frames.specs.Layout.{symbols_at, u16, u32}
use Rattle.frames.specs.Logic.{all, rows}
use Rattle.frames.specs.Table.{all_given, symbol_given}
use native.Mathlib.Omega.{arith}
use Rattle.rows.proofs.framing.are_given.Goals as goal

-- a list read by its count and its start
rows-moved : {A B : Type 0} (q : List A → B) (read : ℕ → A) (step : ℕ) {n n' from from' : ℕ} {r : B}
    → r ≡ q (rows read step n from) → n ≡ n' → from ≡ from' → r ≡ q (rows read step n' from')
rows-moved q read step {n} {n'} {from} {from'} e g h = moved (λ k. q (rows read step n' k)) (moved (λ k. q (rows read step k from)) e g) h

pub loop-i-init : goal.loop-i-init
loop-i-init c = let a = c.args in all_none (symbol_given a.file.now a.symbols.now a.statements.now (rows (u32 a.file.now) 4 a.h a.from) a.limit) (rows (u16 a.file.now) 2 c.symbol_count-n.result c.symbols_from-first.result)

pub loop-i-preserved : goal.loop-i-preserved
loop-i-preserved c = let a = c.args in all_more c.loop-i.invariant (here-rows (u16 a.file.now) 2 c.symbol_count-n.result c.symbols_from-first.result c.loop-i.i (omega arith)) (told (symbol_given a.file.now a.symbols.now a.statements.now (rows (u32 a.file.now) 4 a.h a.from) a.limit) c.is_symbol_given.ensures c.u16_at.ensures.0 c.if-not-is_symbol_given.false)

pub returns-then-not-is_symbol_given : goal.returns-then-not-is_symbol_given
unfolding all_given symbols_at
returns-then-not-is_symbol_given c = let a = c.args in rows-moved (all (symbol_given a.file.now a.symbols.now a.statements.now (rows (u32 a.file.now) 4 a.h a.from) a.limit)) (u16 a.file.now) 2 (all-stop c.loop-i.invariant (here-rows (u16 a.file.now) 2 c.symbol_count-n.result c.symbols_from-first.result c.loop-i.i (omega arith)) (told (symbol_given a.file.now a.symbols.now a.statements.now (rows (u32 a.file.now) 4 a.h a.from) a.limit) c.is_symbol_given.ensures c.u16_at.ensures.0 c.if-not-is_symbol_given.true)) c.symbol_count-n.ensures.0 c.symbols_from-first.ensures.0

pub returns : goal.returns
unfolding all_given symbols_at
returns c = let a = c.args in rows-moved (all (symbol_given a.file.now a.symbols.now a.statements.now (rows (u32 a.file.now) 4 a.h a.from) a.limit)) (u16 a.file.now) 2 (all_done c.loop-i.invariant (omega (arith, length-rows (u16 a.file.now) 2 c.symbol_count-n.result c.symbols_from-first.result))) c.symbol_count-n.ensures.0 c.symbols_from-first.ensures.0
