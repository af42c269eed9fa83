-- `spell::text::write_pending` meets its contract: what remains with what is written is the same whole after each turn (`Going`).
use Rattle.spell.proofs.Writing.{Going}
use Rattle.spell.proofs.text.write_pending.Given as goal

abbrev pub invariant-loop-end : goal.invariant-loop-end
invariant-loop-end l = Going l.file l.tree l.initial.pending l.depth l.size l.initial.out l.pending l.out l.left l.end

abbrev pub decreases-loop-end : goal.decreases-loop-end
decreases-loop-end l = l.end
