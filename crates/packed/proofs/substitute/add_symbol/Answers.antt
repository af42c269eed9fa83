-- `packed::substitute::add_symbol` meets its contract: the name read at the symbol's offset is its packed name (`name-spelled`).
use Rattle.packed.proofs.Adding.{adds_same}
use Rattle.packed.proofs.Pieces.{name-spelled}
use Rattle.packed.proofs.substitute.add_symbol.Goals as goal

pub returns : goal.returns
returns c = let a = c.args in adds_same (name-spelled a.file.now a.symbols.now _ a.s.0 _ c.entry.ensures c.name-name.ensures) c.add_name.ensures.adds
