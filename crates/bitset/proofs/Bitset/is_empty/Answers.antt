-- `Bitset::is_empty` meets its contract: a word that is not zero has a member, and words that are all zero have none (`zeros-told`).
use mathlib.Core.Path.{◌≡◌}
use Rattle.std.proofs.Common.{rules, tests}
use Rattle.std.proofs.lemmas.Iterator.{cases_from_all, YieldsList-from_slice}
use Rattle.bitset.proofs.Laws.{array-words}
use Rattle.bitset.proofs.Listed.{zeros-told}
use Rattle.bitset.proofs.Promises.{empty-told}
use Rattle.bitset.proofs.Bitset.is_empty.Goals as goal

pub returns : goal.returns
returns c =
    let w = array-words 4 c.args.self.words (search rules) (λ i. search rules) in
    let told = cases_from_all _ _ _ (λ word. word ≡ 0) (λ word. word ≡ 0 → ⊥) c.all.ensures.ran (YieldsList-from_slice c.args.self.words cc) (λ x q k. search (rules, tests)) (λ x q k. search (rules, tests)) in
    record { tells = empty-told _ _ (zeros-told w c.all.result told); words = w }
