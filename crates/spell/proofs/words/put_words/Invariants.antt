-- `spell::words::put_words` meets its contract: after i words the table has the first i of them (`Copied`).
use Rattle.packed.proofs.Copies.{Copied}
use Rattle.spell.specs.Words.{entries_from}
use Rattle.spell.proofs.words.put_words.Given as goal

abbrev pub invariant-loop-i : goal.invariant-loop-i
invariant-loop-i l = Copied (entries_from l.tree l.from l.n) l.at l.initial.table l.i l.table
