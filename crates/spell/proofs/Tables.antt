-- What a word names, as the functions read it, and what they leave of the table of pending words.
use Prim.Native.Nat.{ℕ, ◌+◌, ◌/◌, ◌%◌, ◌≤◌, ◌<◌}
use mathlib.Core.Path.{◌≡◌, refl, sym, ◌∙◌, ap}
use mathlib.Core.List.{List, []}
use native.Mathlib.Nat.{add-zero}
use native.Mathlib.Omega.{arith}
use lib.ListN.{length}
use Rattle.frames.specs.Database.{statement_at}
use Rattle.frames.proofs.Chains.{equal-yes, equal-no, at_most-yes, at_most-no, pick_first, pick_second}
use Rattle.packed.specs.Pool.{written}
use Rattle.packed.proofs.Written.{written_none}
use Rattle.spell.specs.Words.{offset_of, entries_from, words_below, PushesWords}
use Rattle.spell.proofs.Opening.{entries-length}

-- the words below an even word and below an odd one
pub even-below : (f entries : List ℕ) (word : ℕ) → word % 2 ≡ 0 → [] ≡ words_below f entries word
unfolding words_below
even-below f entries word e = pick_first _ (equal-yes e) refl

pub odd-below : (f entries : List ℕ) (word at n : ℕ) → (word % 2 ≡ 0 → ⊥) → at ≡ offset_of entries word → n ≡ length (statement_at f at).hyps
    → entries_from entries (word / 2 + 1) n ≡ words_below f entries word
unfolding words_below
odd-below f entries word at n odd o e = pick_second _ (equal-no odd) (rw (e, o) refl)

-- nothing is to be put
pub pushes-none : {words : List ℕ} (depth : ℕ) (pending : List ℕ) → [] ≡ words → depth ≤ length pending → PushesWords words depth pending pending depth
pushes-none {words} depth pending none l = rw none at made
  where
    made : PushesWords [] depth pending pending depth
    made = record { table = pick_first _ (at_most-yes (omega arith)) (sym (written_none depth pending)); count = pick_first _ (at_most-yes (omega arith)) (sym (add-zero depth)) }

-- there is no room
pub pushes_full : {words : List ℕ} (depth : ℕ) (pending : List ℕ) → length pending < depth + length words → PushesWords words depth pending pending depth
pushes_full depth pending l = record { table = pick_second _ (at_most-no l) refl; count = pick_second _ (at_most-no l) refl }

-- the words are put
pub pushes-put : {words : List ℕ} (depth : ℕ) (pending : List ℕ) → depth + length words ≤ length pending
    → PushesWords words depth pending (written words depth pending) (depth + length words)
pushes-put depth pending l = record { table = pick_first _ (at_most-yes l) refl; count = pick_first _ (at_most-yes l) refl }

module _ (f entries : List ℕ) (word at n depth : ℕ) (pending : List ℕ) (odd : word % 2 ≡ 0 → ⊥) (here : at ≡ offset_of entries word) (count : n ≡ length (statement_at f at).hyps) where
  -- there is no room for the words of an application
  pub pushes-no-entries : length pending < depth + n → PushesWords (words_below f entries word) depth pending pending depth
  pushes-no-entries l =
      rw (odd-below f entries word at n odd here count) at
      (pushes_full {words = entries_from entries (word / 2 + 1) n} depth pending (omega (arith, entries-length entries (word / 2 + 1) n)))

  -- they are put
  pub pushes-entries : (pending' : List ℕ) → depth + n ≤ length pending → pending' ≡ written (entries_from entries (word / 2 + 1) n) depth pending
      → PushesWords (words_below f entries word) depth pending pending' (depth + n)
  pushes-entries pending' l e =
      let words = odd-below f entries word at n odd here count in
      let size = entries-length entries (word / 2 + 1) n in
      let full : depth + length (words_below f entries word) ≡ depth + n = ap (λ (ws : List ℕ). depth + length ws) (sym words) ∙ ap (λ (k : ℕ). depth + k) size in
      let made = pushes-put {words = words_below f entries word} depth pending (omega arith) in
      rw (e ∙ ap (λ (ws : List ℕ). written ws depth pending) words) (rw full at made)
