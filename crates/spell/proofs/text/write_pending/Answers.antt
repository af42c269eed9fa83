-- `spell::text::write_pending` meets its contract: what remains with what is written is the same whole after each turn (`Going`).
use Prim.Native.Nat.{◌-◌}
use native.Mathlib.Omega.{arith}
use Rattle.spell.proofs.Writing.{going-first, going_more, going_done, going-stopped}
use Rattle.spell.proofs.text.write_pending.Goals as goal

pub loop-end-init : goal.loop-end-init
loop-end-init c = let a = c.args in going-first a.file.now a.tree.now a.pending.now a.depth a.size a.out.now _ c.requires.0 c.requires.1 (omega arith)

pub shape_of-pending-then-left-eq0 : goal.shape_of-pending-then-left-eq0
shape_of-pending-then-left-eq0 c = c.loop-end.invariant.table_sized

pub shape_of-out-then-left-eq0 : goal.shape_of-out-then-left-eq0
shape_of-out-then-left-eq0 c = c.loop-end.invariant.output_sized

pub returns-then-left-eq0 : goal.returns-then-left-eq0
returns-then-left-eq0 c = going-stopped c.loop-end.invariant c.loop-end-test.true (omega (arith, c.if-left-eq0.true))

pub put_label-end-requires : goal.put_label-end-requires
put_label-end-requires c = omega (arith, c.loop-end.invariant.room, c.loop-end.invariant.fits)

pub push_words-left-requires : goal.push_words-left-requires
push_words-left-requires c = omega (arith, c.loop-end.invariant.within)

pub loop-end-smaller : goal.loop-end-smaller
loop-end-smaller c = omega (arith, c.put_label-end.ensures.begins, c.loop-end-test.true)

pub loop-end-preserved : goal.loop-end-preserved
loop-end-preserved c = going_more c.loop-end.invariant {left = c.loop-end.left - 1} (omega (arith, c.if-left-eq0.false)) c.entry_or-word.ensures c.label_of.ensures c.pending-1.given c.out-1.given c.put_label-end.ensures c.push_words-left.ensures

pub shape_of-pending : goal.shape_of-pending
shape_of-pending c = c.loop-end.invariant.table_sized

pub shape_of-out : goal.shape_of-out
shape_of-out c = c.loop-end.invariant.output_sized

pub returns : goal.returns
returns c = going_done c.loop-end.invariant (omega (arith, c.loop-end-test.false))
