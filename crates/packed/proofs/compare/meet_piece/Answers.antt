-- `packed::compare::meet_piece` meets its contract: a variable is met by its image, a constant by its name.
use Rattle.frames.proofs.Chains.{equal-no, equal-yes, pick_first, pick_second}
use Rattle.frames.specs.Database.{symbol_at}
use Rattle.packed.specs.Pool.{image, is_var, piece, spelled}
use mathlib.Core.Bool.{false, true}
use mathlib.Core.Path.{◌≡◌, refl}
use native.Mathlib.Omega.{arith}
use mathlib.Core.List.Memᴰ
use Rattle.packed.proofs.compare.meet_piece.Goals as goal

pub meet_range-requires : goal.meet_range-requires
unfolding is_var symbol_at
meet_range-requires c =
    let a = c.args in
    let v : is_var a.file.now a.symbols.now a.s.0 ≡ true = equal-yes (cc) in
    let m = c.requires.1 in
    let h = m.rises a.s.0 (Memᴰ.head refl) v in
    let k = m.within a.s.0 (Memᴰ.head refl) v in
    (c.requires.0, (omega arith, omega arith))

pub returns-then-class-eq1 : goal.returns-then-class-eq1
unfolding is_var symbol_at piece image
returns-then-class-eq1 c =
    let a = c.args in
    let v : is_var a.file.now a.symbols.now a.s.0 ≡ true = equal-yes (cc) in
    cc (pick_first (spelled a.file.now a.symbols.now a.s.0) v refl)

pub returns : goal.returns
unfolding is_var symbol_at piece spelled
returns c =
    let a = c.args in
    let v : is_var a.file.now a.symbols.now a.s.0 ≡ false = equal-no (λ q. c.if-class-eq1.false (cc)) in
    cc (pick_second (image a.froms.now a.tos.now a.pool.now a.s.0) v refl)
