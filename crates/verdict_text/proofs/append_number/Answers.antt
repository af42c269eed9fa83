-- `verdict_text::append_number` meets its contract: `io` spells the fewest digits, which are the decimal text
-- (`decimal-digits`), at most 20 of them (`few-digits`), and `append` puts them in.
use Prim.Native.Nat.{◌≤◌}
use mathlib.Core.Path.{◌≡◌, ◌∙◌}
use lib.ListN.{take}
use Rattle.verdict_text.specs.Text.{decimal}
use native.Mathlib.Omega.{arith}
use Rattle.verdict_text.proofs.Decimal.{decimal-digits, few-digits}
use borrow.Author.Rules.{rules}
use Rattle.verdict_text.proofs.append_number.Goals as goal

pub append-requires : goal.append-requires
append-requires c =
    let dec = c.decimal-k in
    let few : dec.result ≤ 20 = few-digits dec.result c.args.n dec.ensures.len (search rules) in
    omega (arith, dec.ensures.in_bounds.1)

pub returns : goal.returns
returns c =
    let put = c.append in
    let dec = c.decimal-k in
    let n = c.args.n in
    let few : dec.result ≤ 20 = few-digits dec.result n dec.ensures.len (search rules) in
    let text : take dec.result dec.new.out ≡ decimal n = dec.ensures.digits ∙ decimal-digits 20 dec.result n dec.ensures.len few in
    record { appended = rw text at put.ensures; upper_bound = omega (arith, dec.ensures.in_bounds.1, put.ensures.next_is) }
