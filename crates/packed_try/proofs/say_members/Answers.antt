-- `packed_try::say_members`: the count of what is left fits, since a set has 256 numbers (`left_few`).
use mathlib.Core.Logic.{inl}
use Rattle.std.proofs.Common.{◌≡◌, length, rules, arith}
use Rattle.bitset.specs.Sets.{size}
use Rattle.bitset.proofs.Steps.{left_few}
use Rattle.packed_try.proofs.say_members.Goals as goal

pub count-requires-clause-fits : goal.count-requires-clause-fits
unfolding size
count-requires-clause-fits c =
    let words : length c.args.members.set.words ≡ 4 = search rules in
    let few = left_few c.args.members in
    inl (omega arith)
