-- `verdict_text::append` meets its contract: the part stands at its place (`take-put_mid`).
use native.Mathlib.Omega.{arith}
use borrow.Author.Rules.{rules}
use Prim.Native.Nat.{◌+◌, ◌-◌}
use lib.ListN.{length}
use Rattle.std.proofs.lemmas.Slice.{take-put_mid}
use Rattle.verdict_text.proofs.append.Goals as goal

pub returns : goal.returns
returns c =
    let a = c.args in
    let put = c.copy_from_slice.ensures in
    record {
      same = search rules;
      next_is = search rules;
      text = rw put.after (take-put_mid a.at (a.at + length a.part.now - a.at) a.out.now a.part.now (a.at + length a.part.now) (omega arith) (omega arith));
    }
