-- `apply::claim::claim_row` meets its contract.
use mathlib.Core.Path.{refl}
use Rattle.frames.specs.Facts.{typecode}
use borrow.Author.Rules.{rules}
use Rattle.apply.proofs.claim.claim_row.Goals as goal

pub returns : goal.returns
unfolding typecode
returns c =
    record {
      head = c.typecode-typecode.ensures;
      from_is = refl;
      to_is = refl;
      tag_is = refl;
      end_is = refl;
      word_is = refl;
      vars = c.do_substitute_vars-vars.ensures.lists;
      sized = search rules;
    }
