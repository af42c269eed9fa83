-- What the three parts of a token are, in each of the ways in which its first `:`, at m, and its first `=`, at n, can stand; a sign that is not
-- there stands at the token's end.
use Prim.Native.Nat.{ℕ, zero, suc, ◌+◌, ◌-◌, ◌≤◌, ◌<◌}
use mathlib.Core.Path.{◌≡◌, refl, sym, ◌∙◌, ap}
use mathlib.Core.Bool.{true}
use mathlib.Core.Option.{none, some}
use mathlib.Core.List.{List, [], ◌∷◌, ◌++◌}
use native.Mathlib.Decide.{dec_lt, ℕ_discrete}
use native.Mathlib.Nat.{sub-zero, zero-sub, suc-sub-suc}
use native.Mathlib.Numerals.{add-one}
use native.Mathlib.Omega.{arith}
use borrow.Author.Tests.{lt-ltb, le-ltb}
use lib.Dec.{ltb}
use lib.ListN.{length, take, drop, length-drop, take-append-drop}
use lib.Seq.{length-take-le, take_all, take-nil, take-take, drop-drop, drop-append-le}
use Rattle.frames.proofs.Chains.{pick_first, pick_second, equal-yes, equal-no, below-yes, below-no}
use Rattle.machine.specs.Memory.{is_some}
use Rattle.machine.specs.Reading.{cut, parts, mark_and_label, local_first, split_colon, split}
use Rattle.tokens.specs.Signs.{part_or, part_before}
use Rattle.tokens.proofs.Halves.{First, first-at, cut_at, cut-none, at_first, first-within, first-kept, first-cut, first-left}

-- what is left of the beginning of a list
pub drop-take : (i m : ℕ) (l : List ℕ) → drop i (take m l) ≡ take (m - i) (drop i l)
drop-take zero m l = rw sub-zero
drop-take (suc i) zero l = rw zero-sub
drop-take (suc i) (suc m) [] = sym (take-nil (suc m - suc i))
drop-take (suc i) (suc m) (x ∷ xs) = rw suc-sub-suc (drop-take i m xs)

-- a part of a list that reaches to its end
pub to_the_end : (l : List ℕ) (i : ℕ) → take (length l - i) (drop i l) ≡ drop i l
to_the_end l i = take_all (length l - i) (drop i l) (omega (arith, length-drop i l))

module _ {t : List ℕ} {m n : ℕ} (c : First 58 t m) (e : First 61 t n) where
  -- the two signs do not stand at the same place
  signs_apart : n < length t → m ≡ n → ⊥
  signs_apart h same =
      let a : drop m t ≡ 58 ∷ drop (suc m) t = at_first c (omega arith) in
      let b : drop n t ≡ 61 ∷ drop (suc n) t = at_first e h in
      let z : ◌≡◌ {A = ℕ} 58 61 = cc in
      omega arith

  -- before `:` there is no `=`, if that stands later
  no-mark-before : m ≤ n → m < length t → cut 61 (take m t) ≡ none
  no-mark-before l h = cut-none (first-cut e m l) (omega (arith, length-take-le m t (omega arith)))

  split-neither : length t ≤ m → length t ≤ n → split t ≡ parts none none t
  unfolding split split_colon mark_and_label
  split-neither lm ln = rw (cut-none c lm, cut-none e ln) refl

  split-mark : length t ≤ m → n < length t → split t ≡ parts none (some (take n t)) (drop (suc n) t)
  unfolding split split_colon mark_and_label
  split-mark lm hn = rw (cut-none c lm, cut_at e hn) refl

  split-local : m < length t → length t ≤ n → split t ≡ parts (some (take m t)) none (drop (suc m) t)
  unfolding split split_colon local_first mark_and_label
  split-local hm ln =
      let after : cut 61 (drop (suc m) t) ≡ none =
      cut-none (first-left e (suc m) (n - suc m) (omega arith)) (omega (arith, length-drop (suc m) t)) in
      rw (cut_at c hm, no-mark-before (omega arith) hm, after) refl

  split-local-mark : m < n → n < length t → split t ≡ parts (some (take m t)) (some (take (n - suc m) (drop (suc m) t))) (drop (suc n) t)
  unfolding split split_colon local_first mark_and_label
  split-local-mark l hn =
      let hm : m < length t = omega arith in
      let after : cut 61 (drop (suc m) t) ≡ some (take (n - suc m) (drop (suc m) t), drop (suc (n - suc m)) (drop (suc m) t)) =
      cut_at (first-left e (suc m) (n - suc m) (omega arith)) (omega (arith, length-drop (suc m) t)) in
      let place : suc m + suc (n - suc m) ≡ suc n = omega arith in
      let rest : drop (suc (n - suc m)) (drop (suc m) t) ≡ drop (suc n) t = drop-drop (suc (n - suc m)) (suc m) t ∙ rw place refl in
      rw (cut_at c hm, no-mark-before (omega arith) hm, after, rest) refl

  split-mark-local : n < m → m < length t → split t ≡ parts (some (take (m - suc n) (drop (suc n) t))) (some (take n t)) (drop (suc n) t)
  unfolding split split_colon local_first
  split-mark-local l hm =
      let size : length (take m t) ≡ m = length-take-le m t (omega arith) in
      let before : cut 61 (take m t) ≡ some (take n (take m t), drop (suc n) (take m t)) = cut_at (first-kept e m l) (omega arith) in
      let joined : drop (suc n) (take m t) ++ (58 ∷ drop (suc m) t) ≡ drop (suc n) t =
      rw (← at_first c hm)
      (sym (drop-append-le (suc n) (take m t) (drop m t) (omega arith)) ∙ ap (drop (suc n)) (take-append-drop m t)) in
      let start : take n (take m t) ≡ take n t = take-take n m t (omega arith) in
      rw (cut_at c hm, before, joined, start, drop-take) refl

  -- the local label
  pub local-none : length t ≤ m → (split t).local ≡ none
  unfolding parts
  local-none lm = go (dec_lt n (length t))
    where
      go : Dec (n < length t) → (split t).local ≡ none
      go (yes hn) = rw (split-mark lm hn) refl
      go (no no-n) = rw (split-neither lm (omega arith)) refl

  pub local-first : m ≤ n → m < length t → (split t).local ≡ some (take m t)
  unfolding parts
  local-first l hm = go (dec_lt n (length t))
    where
      go : Dec (n < length t) → (split t).local ≡ some (take m t)
      go (yes hn) = rw (split-local-mark (omega (arith, signs_apart hn)) hn) refl
      go (no no-n) = rw (split-local hm (omega arith)) refl

  pub local_second : n < m → m < length t → (split t).local ≡ some (take (m - (n + 1)) (drop (n + 1) t))
  unfolding parts
  local_second l hm = rw (add-one, split-mark-local l hm) refl

  -- the mark
  pub mark-none : length t ≤ n → (split t).mark ≡ none
  unfolding parts
  mark-none ln = go (dec_lt m (length t))
    where
      go : Dec (m < length t) → (split t).mark ≡ none
      go (yes hm) = rw (split-local hm ln) refl
      go (no no-m) = rw (split-neither (omega arith) ln) refl

  pub mark-first : n ≤ m → n < length t → (split t).mark ≡ some (take n t)
  unfolding parts
  mark-first l hn = go (dec_lt m (length t))
    where
      go : Dec (m < length t) → (split t).mark ≡ some (take n t)
      go (yes hm) = rw (split-mark-local (omega (arith, signs_apart hn)) hm) refl
      go (no no-m) = rw (split-mark (omega arith) hn) refl

  pub mark-second : m < n → n < length t → (split t).mark ≡ some (take (n - (m + 1)) (drop (m + 1) t))
  unfolding parts
  mark-second l hn = rw (add-one, split-local-mark l hn) refl

  -- the label
  label-after-mark : n < length t → (split t).label ≡ drop (n + 1) t
  unfolding parts
  label-after-mark hn = go (dec_lt m n) (dec_lt m (length t))
    where
      go : Dec (m < n) → Dec (m < length t) → (split t).label ≡ drop (n + 1) t
      go (yes l) d = rw (add-one, split-local-mark l hn) refl
      go (no no-l) (yes hm) = rw (add-one, split-mark-local (omega (arith, signs_apart hn)) hm) refl
      go (no no-l) (no no-m) = rw (add-one, split-mark (omega arith) hn) refl

  label-after-local : length t ≤ n → m < length t → (split t).label ≡ drop (m + 1) t
  unfolding parts
  label-after-local ln hm = rw (add-one, split-local hm ln) refl

  label-alone : length t ≤ n → length t ≤ m → (split t).label ≡ t
  unfolding parts
  label-alone ln lm = rw (split-neither lm ln) refl

  -- the label follows the sign at s: `=`, or `:` where there is no `=`
  module _ {s : ℕ} (marked : n < length t → s ≡ n) (unmarked : length t ≤ n → s ≡ m) where
    pub label_after : s < length t → (split t).label ≡ drop (s + 1) t
    label_after hs = go (dec_lt n (length t))
      where
        go : Dec (n < length t) → (split t).label ≡ drop (s + 1) t
        go (yes hn) = rw (marked hn) (label-after-mark hn)
        go (no no-n) =
            let is = unmarked (omega arith) in
            rw is (label-after-local (omega arith) (omega arith))

    pub label-whole : length t ≤ s → (split t).label ≡ t
    label-whole ls = go (dec_lt n (length t))
      where
        go : Dec (n < length t) → (split t).label ≡ t
        go (yes hn) = absurd (omega (arith, marked hn))
        go (no no-n) = let is = unmarked (omega arith) in label-alone (omega arith) (omega arith)

-- whether there is a local label, and whether there is a mark
module _ {t : List ℕ} where
  pub local-there : {m : ℕ} → First 58 t m → ltb m (length t) ≡ is_some (split t).local
  unfolding is_some
  local-there {m} c = go (first-at t refl) (dec_lt m (length t))
    where
      some-local : {n : ℕ} → First 61 t n → m < length t → Dec (n < m) → is_some (split t).local ≡ true
      some-local e hm (yes l) = rw (local_second c e l hm) refl
      some-local e hm (no no-l) = rw (local-first c e (omega arith) hm) refl

      go : {n : ℕ} → First 61 t n → Dec (m < length t) → ltb m (length t) ≡ is_some (split t).local
      go {n} e (yes hm) = lt-ltb _ _ hm ∙ sym (some-local e hm (dec_lt n m))
      go e (no no-m) = le-ltb m (length t) (omega arith) ∙ sym (rw (local-none c e (omega arith)) refl)

  pub mark-there : {n : ℕ} → First 61 t n → ltb n (length t) ≡ is_some (split t).mark
  unfolding is_some
  mark-there {n} e = go (first-at t refl) (dec_lt n (length t))
    where
      some-mark : {m : ℕ} → First 58 t m → n < length t → Dec (m < n) → is_some (split t).mark ≡ true
      some-mark c hn (yes l) = rw (mark-second c e l hn) refl
      some-mark c hn (no no-l) = rw (mark-first c e (omega arith) hn) refl

      go : {m : ℕ} → First 58 t m → Dec (n < length t) → ltb n (length t) ≡ is_some (split t).mark
      go {m} c (yes hn) = lt-ltb _ _ hn ∙ sym (some-mark c hn (dec_lt m n))
      go c (no no-n) = le-ltb n (length t) (omega arith) ∙ sym (rw (mark-none c e (omega arith)) refl)

-- the local label and the mark: what stands before the sign of each
module _ {t : List ℕ} {m n : ℕ} (c : First 58 t m) (e : First 61 t n) where
  pub local-before : part_or (split t).local ≡ part_before t m n
  unfolding part_before part_or
  local-before = go (ℕ_discrete m (length t)) (dec_lt n m)
    where
      go : Dec (m ≡ length t) → Dec (n < m) → part_or (split t).local ≡ part_before t m n
      go (yes l) d = pick_first _ (equal-yes l) (ap part_or (local-none c e (omega arith)))
      go (no k) (yes l) = pick_second _ (equal-no k) (pick_first _ (below-yes l) (ap part_or (local_second c e l (omega (arith, first-within c)))))
      go (no k) (no l) = pick_second _ (equal-no k) (pick_second _ (below-no (omega arith)) (ap part_or (local-first c e (omega arith) (omega (arith, first-within c)))))

  pub mark-before : part_or (split t).mark ≡ part_before t n m
  unfolding part_before part_or
  mark-before = go (ℕ_discrete n (length t)) (dec_lt m n)
    where
      go : Dec (n ≡ length t) → Dec (m < n) → part_or (split t).mark ≡ part_before t n m
      go (yes l) d = pick_first _ (equal-yes l) (ap part_or (mark-none c e (omega arith)))
      go (no k) (yes l) = pick_second _ (equal-no k) (pick_first _ (below-yes l) (ap part_or (mark-second c e l (omega (arith, first-within e)))))
      go (no k) (no l) = pick_second _ (equal-no k) (pick_second _ (below-no (omega arith)) (ap part_or (mark-first c e (omega arith) (omega (arith, first-within e)))))
