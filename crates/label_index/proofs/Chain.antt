-- The laws of the chains: a statement is put at the head of its chain, and a search goes down a chain.
use Prim.Native.Nat.{ℕ, zero, suc, ◌+◌, ◌*◌, ◌-◌, ◌%◌, ◌<◌, ◌≤◌}
use mathlib.Core.Path.{◌≡◌, refl, sym, ap, ◌∙◌}
use mathlib.Core.Bool.{Bool, true, false}
use mathlib.Core.Logic.{◌⊎◌, inl, inr}
use mathlib.Core.List.{List, [], ◌∷◌}
use native.Mathlib.Nat.{mod-lt, eq-or-lt_of_le}
use native.Mathlib.Numerals.{add-one}
use native.Mathlib.Omega.{arith}
use lib.ListN.{length, get_or, set, drop, drop_of_length-le, length-set}
use Rattle.facts.proofs.Kept.{pick-cases}
use lib.Seq.{get_or-set_same, get_or-set_other}
use Rattle.frames.specs.Logic.{equal, pick, any, either, same}
use Rattle.frames.specs.Table.{used, named}
use Rattle.frames.proofs.Chains.{equal-yes, equal-no, equal-true, equal-false}
use Rattle.frames.proofs.Loops.{Here}
use Rattle.frames.proofs.Found.{same_true, same_self}
use Rattle.frames.proofs.Tells.{true-not-false}
use Rattle.label_index.specs.Labelled.{hash_from, hash_of, label_of, last_with, LabelledTo, Labelled, Put}

-- the hash so far: what is left of the label takes it on to the whole hash
pub record HashedTo (label : List ℕ) (i h : ℕ) : Type 0 where
  pub small : h < 8192
  pub is : hash_from h (drop i label) ≡ hash_of label

pub hashed-none : (label : List ℕ) → HashedTo label 0 0
unfolding hash_of
hashed-none label = record { small = omega arith; is = refl }

pub hashed-more : {label : List ℕ} {i h x : ℕ} → HashedTo label i h → Here label i x → HashedTo label (i + 1) ((h * 613 + x) % 8192)
unfolding hash_from
hashed-more {label} {i} {h} {x} s e = record { small = mod-lt (h * 613 + x) (omega arith); is = rw e.is at s.is }

pub hashed-all : {label : List ℕ} {i h : ℕ} → HashedTo label i h → length label ≤ i → h ≡ hash_of label
unfolding hash_from
hashed-all {label} s l = rw (drop_of_length-le label l) at s.is

hash_from-small : (h : ℕ) (label : List ℕ) → h < 8192 → hash_from h label < 8192
unfolding hash_from
hash_from-small h [] l = l
hash_from-small h (x ∷ xs) l = hash_from-small ((h * 613 + x) % 8192) xs (mod-lt (h * 613 + x) (omega arith))

pub hash-small : (label : List ℕ) → hash_of label < 8192
unfolding hash_of
hash-small label = hash_from-small 0 label (omega arith)

-- a label that no statement bears is not used
any-none-true : (p : ℕ → Bool) (xs : List ℕ) → ((i : ℕ) → i < length xs → p (get_or xs i 0) ≡ false) → any p xs ≡ false
unfolding any either
any-none-true p [] h = refl
any-none-true p (x ∷ xs) h = rw (h 0 (omega arith)) (any-none-true p xs (λ i l. h (suc i) (omega arith)))

not-true-false : (t : Bool) → (t ≡ true → ⊥) → t ≡ false
not-true-false true h = absurd (h refl)
not-true-false false h = refl

unused-all : (f stmts label : List ℕ) → ((i : ℕ) → i < length stmts → label_of f stmts i ≡ label → ⊥) → used f stmts label ≡ false
unfolding used named
unused-all f stmts label h =
    any-none-true (named f label) stmts (λ i l. not-true-false _ (λ e. h i l (same_true _ _ e)))

module _ (f stmts : List ℕ) where
  -- one statement more: it is the last of its hash, and nothing changes for another hash
  last-here : (b n : ℕ) → hash_of (label_of f stmts n) ≡ b → last_with f stmts b (n + 1) ≡ n + 1
  unfolding last_with pick
  last-here b n e = rw (add-one, equal-yes e)

  last-other : (b n : ℕ) → (hash_of (label_of f stmts n) ≡ b → ⊥) → last_with f stmts b (n + 1) ≡ last_with f stmts b n
  unfolding last_with pick
  last-other b n e = rw (add-one, equal-no e)

  -- a chain falls
  last-few : (b n : ℕ) → last_with f stmts b n ≤ n
  unfolding last_with
  last-few b zero = omega arith
  last-few b (suc n) =
      pick-cases (λ w. w ≤ suc n) (equal (hash_of (label_of f stmts n)) b) (suc n) _ (λ t. omega arith)
      (λ t. omega (arith, last-few b n))

-- an empty table is the index of no statements
pub labelled-none : (f stmts : List ℕ) {labels : List ℕ} → length labels ≡ 12288 → ((b : ℕ) → get_or labels b 0 ≡ 0)
    → LabelledTo f stmts labels 0
unfolding last_with
labelled-none f stmts l zeros = record { size = l; head = λ b h. zeros b; next = λ j h. absurd (omega arith) }

-- one statement more is put
module _ (f stmts labels : List ℕ) (b i : ℕ) (t : LabelledTo f stmts labels i) (few : i < 4096) (e : b ≡ hash_of (label_of f stmts i)) where
  below-b : b < 8192
  below-b = omega (arith, e, hash-small (label_of f stmts i))

  wide : length (set labels (8192 + i) (get_or labels b 0)) ≡ 12288
  wide = simp length-set t.size

  head-put : (c : ℕ) (q : Bool) → equal c b ≡ q → c < 8192
      → get_or (set (set labels (8192 + i) (get_or labels b 0)) b (i + 1)) c 0 ≡ last_with f stmts c (i + 1)
  head-put c true q h =
      let s : c ≡ b = equal-true c b q in
      rw s
      (get_or-set_same (set labels (8192 + i) (get_or labels b 0)) b (i + 1) 0 (omega (arith, wide, below-b))
      ∙ sym (last-here f stmts b i (sym e)))
  head-put c false q h =
      let n = equal-false c b q in
      get_or-set_other (set labels (8192 + i) (get_or labels b 0)) b c (i + 1) 0 n
      ∙ get_or-set_other labels (8192 + i) c (get_or labels b 0) 0 (λ z. omega arith)
      ∙ t.head c h
      ∙ sym (last-other f stmts c i (λ z. n (sym z ∙ sym e)))

  next-put : (j : ℕ) (q : Bool) → equal j i ≡ q → j < i + 1
      → get_or (set (set labels (8192 + i) (get_or labels b 0)) b (i + 1)) (8192 + j) 0 ≡ last_with f stmts (hash_of (label_of f stmts j)) j
  next-put j true q h =
      let s : j ≡ i = equal-true j i q in
      get_or-set_other (set labels (8192 + i) (get_or labels b 0)) b (8192 + j) (i + 1) 0 (λ z. omega (arith, below-b))
      ∙ rw s
      (get_or-set_same labels (8192 + i) (get_or labels b 0) 0 (omega (arith, t.size))
      ∙ t.head b below-b
      ∙ ap (λ c. last_with f stmts c i) e)
  next-put j false q h =
      let n = equal-false j i q in
      get_or-set_other (set labels (8192 + i) (get_or labels b 0)) b (8192 + j) (i + 1) 0 (λ z. omega (arith, below-b))
      ∙ get_or-set_other labels (8192 + i) (8192 + j) (get_or labels b 0) 0 (λ z. n (omega arith))
      ∙ t.next j (omega (arith, n))

  pub labelled-more : {labels' : List ℕ} → Put labels b i labels' → LabelledTo f stmts labels' (i + 1)
  labelled-more p =
      record {
        size = ap length p.is ∙ simp length-set t.size;
        head = λ c h. rw p.is (head-put c (equal c b) refl h);
        next = λ j h. rw p.is (next-put j (equal j i) refl h);
      }

-- a search has come to this word of a chain: no statement from there on bears the label
pub record Sought (f stmts label : List ℕ) (word : ℕ) : Type 0 where
  pub few : word ≤ length stmts
  pub near : (j : ℕ) → word ≡ suc j → hash_of (label_of f stmts j) ≡ hash_of label
  pub past : (i : ℕ) → word ≤ i → i < length stmts → label_of f stmts i ≡ label → ⊥

module _ (f stmts label : List ℕ) where
  -- no statement from n on bears the label
  abbrev Past : ℕ → Type 0
  Past n = (i : ℕ) → n ≤ i → i < length stmts → label_of f stmts i ≡ label → ⊥

  past-less : (n : ℕ) → (label_of f stmts n ≡ label → ⊥) → Past (suc n) → Past n
  past-less n here past i h l e = go (eq-or-lt_of_le h)
    where
      go : (n ≡ i) ⊎ (n < i) → ⊥
      go (inl s) = here (rw s e)
      go (inr k) = past i (omega arith) l e

  sought-from : (n : ℕ) → n ≤ length stmts → Past n → Sought f stmts label (last_with f stmts (hash_of label) n)
  unfolding last_with
  sought-from zero l past = record { few = omega arith; near = λ j e. absurd (omega arith); past = past }
  sought-from (suc n) l past =
      pick-cases (Sought f stmts label) (equal (hash_of (label_of f stmts n)) (hash_of label)) (suc n) _
      (λ t. record { few = l; near = λ j e. let s : j ≡ n = omega arith in rw s (equal-true _ _ t); past = past })
      (λ t. sought-from n (omega arith) (past-less n (λ e. equal-false _ _ t (ap hash_of e)) past))

  module _ {labels : List ℕ} (t : Labelled f stmts labels) where
    -- a search begins at the head of the label's chain
    pub sought-head : {word : ℕ} → word ≡ get_or labels (hash_of label) 0 → Sought f stmts label word
    sought-head e =
        rw (e ∙ t.all.head (hash_of label) (hash-small label)) (sought-from (length stmts) (omega arith) (λ i h l. absurd (omega arith)))

    -- and goes on where the statement at hand does not bear the label
    pub sought-next : {word word' : ℕ} → Sought f stmts label word → (word ≡ 0 → ⊥) → same (label_of f stmts (word - 1)) label ≡ false
        → word' ≡ get_or labels (8192 + (word - 1)) 0 → Sought f stmts label word' × (word' < word)
    sought-next {word} {word'} s w other e =
        let few = s.few in
        let up : word ≡ suc (word - 1) = omega (arith, w) in
        let is : word' ≡ last_with f stmts (hash_of label) (word - 1) =
        e ∙ t.all.next (word - 1) (omega arith) ∙ ap (λ b. last_with f stmts b (word - 1)) (s.near (word - 1) up)
        in
        let differs : label_of f stmts (word - 1) ≡ label → ⊥ = λ z. true-not-false (ap (λ x. same x label) z ∙ same_self label) other in (
          rw is (sought-from (word - 1) (omega arith) (past-less (word - 1) differs (rw up at s.past))),
          omega (arith, is, last-few f stmts (hash_of label) (word - 1)),
        )

  -- at the end of the chain no statement bears it
  pub sought-nowhere : {word : ℕ} → Sought f stmts label word → word ≡ 0 → used f stmts label ≡ false
  sought-nowhere s w = unused-all f stmts label (λ i l e. s.past i (omega arith) l e)
