-- `engine::ready::leaf_row` meets its contract.
use Rattle.frames.specs.Facts.{typecode}
use mathlib.Core.Path.{refl}
use borrow.Author.Rules.{rules}
use Rattle.engine.proofs.ready.leaf_row.Goals as goal

pub returns : goal.returns
unfolding typecode
returns c =
    record {
      head = c.typecode-typecode.ensures;
      from_is = refl;
      to_is = refl;
      tag_is = refl;
      end_is = refl;
      word_is = search rules;
      vars = c.raw_set-vars.ensures;
      sized = search rules;
    }
