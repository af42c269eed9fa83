-- `Bitset::from_table` meets its contract: each word is that of the table, or 0 past its end.
use Prim.Native.Nat.{ℕ}
use mathlib.Core.Path.{◌≡◌, refl, ap, ◌∙◌}
use native.Mathlib.Omega.{arith}
use Rattle.std.proofs.Common.{rules, tests}
use mathlib.Core.List.{List}
use lib.ListN.{get_or, drop}
use lib.Seq.{get_or-drop}
use Rattle.std.proofs.lemmas.List.FromFn.{length-map-range_with_len, get_or-map-range_with_len}
use Rattle.bitset.specs.Sets.{word_from, words_at}
use Rattle.bitset.proofs.Made.{made, rest_of_table}
use Rattle.bitset.proofs.Bitset.from_table.Goals as goal

pub returns : goal.returns
unfolding words_at word_from
returns c =
    let f = word_from c.args.table.now c.args.at in
    let words = c.unwrap_or-words.result.now in
    let rest : words ≡ drop c.args.at c.args.table.now = rest_of_table _ _ _ _ _ c.get.ensures.lookup refl c.unwrap_or-words.ensures in
    let each : (x : ℕ) → get_or words x 0 ≡ f x = λ x. ap (λ (ws : List ℕ). get_or ws x 0) rest ∙ get_or-drop c.args.at c.args.table.now x 0 in
    made _ f _ _ (λ x r q k. search (rules, tests, each)) 4 _ c.from_fn.ensures.items (length-map-range_with_len f 0 4) (λ k l. get_or-map-range_with_len f 0 4 k k 0 l (omega arith))
