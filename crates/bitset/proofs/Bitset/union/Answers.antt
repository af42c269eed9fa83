-- `Bitset::union` meets its contract: each word is that of the union (`union-at`).
use mathlib.Core.Path.{◌≡◌, sym, ◌∙◌}
use borrow.Author.Rules.{rules}
use lib.ListN.{length, get_or}
use lib.Bits.{bit_or}
use Rattle.bitset.specs.Sets.{union}
use Rattle.bitset.proofs.Laws.{array-words, union-at, union-length}
use Rattle.bitset.proofs.Made.{made}
use Rattle.bitset.proofs.Promises.{united-promise}
use Rattle.bitset.proofs.Bitset.union.Goals as goal

pub returns : goal.returns
returns c =
    let a = c.args.self.words in
    let b = c.args.other.words in
    let la : length a ≡ 4 = search rules in
    let lb : length b ≡ 4 = search rules in
    record {
      joins = united-promise a b _ (made _ (λ k. bit_or (get_or a k 0) (get_or b k 0)) _ _ (λ x r q k. search rules) 4 (union a b) c.from_fn.ensures.items (union-length a b (la ∙ sym lb) ∙ la) (λ k l. union-at a b k));
      words = array-words 4 a la (λ i. search rules);
      others = array-words 4 b lb (λ i. search rules);
    }
