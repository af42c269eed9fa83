-- `packed::images::include` meets its contract: a variable adds the members of its image, a constant nothing (`included-yes`, `included-no`).
use Rattle.frames.proofs.Chains.{equal-no, equal-yes}
use Rattle.frames.specs.Database.{symbol_at}
use Rattle.packed.proofs.Imaging.{included-no, included-yes}
use Rattle.packed.specs.Pool.{is_var}
use Rattle.packed.proofs.images.include.Goals as goal

pub returns-then-class-eq1 : goal.returns-then-class-eq1
unfolding is_var symbol_at
returns-then-class-eq1 c = let a = c.args in included-yes a.file.now a.symbols.now a.sets.now a.s.0 (equal-yes (cc)) (rw c.image_set.ensures at c.union.ensures.joins)

pub returns : goal.returns
unfolding is_var symbol_at
returns c = let a = c.args in included-no a.file.now a.symbols.now a.sets.now a.s.0 a.all.words (equal-no (λ e. c.if-class-eq1.false (cc)))
