-- What each operation promises of the members, from what it does to the words.
use mathlib.Core.Path.{◌≡◌, sym, ap, ◌∙◌}
use mathlib.Core.Bool.{Bool}
use mathlib.Core.List.{List}
use Prim.Native.Nat.{ℕ}
use Rattle.bitset.specs.Sets.{member, empty, insert, union, members, is_nil, Empty, Added, United, TellsEmpty}
use Rattle.bitset.proofs.Laws.{empty-member, insert-member, insert-refused, union-member}
use Rattle.bitset.proofs.Listed.{nil-none, some-member}

pub empty-promise : (ws : List ℕ) (k : ℕ) → ws ≡ empty k → Empty ws k
empty-promise ws k e = record { none = λ m. ap (λ l. member l m) e ∙ empty-member k m; is = e }

pub added-promise : (ws : List ℕ) (n : ℕ) (now : List ℕ) → now ≡ insert ws n → Added ws n now
added-promise ws n now e =
    record {
      exactly = λ h m. ap (λ l. member l m) e ∙ insert-member ws n m h;
      refused = λ h. e ∙ insert-refused ws n h;
      is = e;
    }

pub united-promise : (a b now : List ℕ) → now ≡ union a b → United a b now
united-promise a b now e = record { exactly = λ m. ap (λ l. member l m) e ∙ union-member a b m; is = e }

pub empty-told : (ws : List ℕ) (answer : Bool) → answer ≡ is_nil (members ws) → TellsEmpty ws answer
empty-told ws answer e =
    record {
      yes = λ h m. nil-none ws m (sym e ∙ h);
      no = λ h. some-member ws (sym e ∙ h);
      is = e;
    }
