-- `lines::then_number` meets its contract: `io` spells the fewest digits, which are the decimal text (`decimal-digits`, `few-digits`).
use Prim.Native.Nat.{◌≤◌}
use mathlib.Core.Path.{◌≡◌, ◌∙◌}
use lib.ListN.{take}
use Rattle.verdict_text.specs.Text.{decimal}
use Rattle.verdict_text.proofs.Decimal.{decimal-digits, few-digits}
use Rattle.lines.proofs.Extending.{extends-same}
use borrow.Author.Rules.{rules}
use Rattle.lines.proofs.then_number.Goals as goal

pub returns : goal.returns
returns c =
    let dec = c.decimal-k in
    let n = c.args.n in
    let few : dec.result ≤ 20 = few-digits dec.result n dec.ensures.len (search rules) in
    let text : take dec.result dec.new.out ≡ decimal n = dec.ensures.digits ∙ decimal-digits 20 dec.result n dec.ensures.len few in
    extends-same text c.then_text.ensures
