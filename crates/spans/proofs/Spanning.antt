-- A span computed from the places of the signs stands for the part that the definition splits off; and when a token is one byte.
use Prim.Native.Nat.{ℕ, ◌+◌, ◌-◌, ◌≤◌, ◌<◌}
use mathlib.Core.Path.{◌≡◌, refl, sym, ◌∙◌, ap}
use mathlib.Core.Bool.{Bool, true, false}
use mathlib.Core.Option.{Option, none, some}
use mathlib.Core.List.{List, [], ◌∷◌}
use native.Mathlib.Decide.{dec_lt}
use native.Mathlib.Numerals.{add-one}
use native.Mathlib.Omega.{arith}
use lib.ListN.{length, get_or, take, drop}
use lib.Seq.{take-take, drop-drop, drop-cons}
use Rattle.frames.specs.Logic.{same, both, equal}
use Rattle.machine.specs.Reading.{split}
use Rattle.packed.specs.Pool.{range}
use Rattle.packed.proofs.Written.{range_length}
use Rattle.memory.specs.Shown.{mark_of}
use Rattle.tokens.proofs.Halves.{First}
use Rattle.tokens.proofs.Split.{drop-take, local-none, local-first, local_second, mark-none, mark-first, mark-second}
use Rattle.spans.specs.Spans.{Before, StandsFor}
use Rattle.spans.specs.declared.Span.{Span}

-- a tag above 0 names where the part begins
mark-at : (text : List ℕ) (k end : ℕ) → mark_of text (k + 1) end ≡ some (range k end text)
unfolding mark_of
mark-at text k end = rw add-one refl

mark-none-at : (text : List ℕ) (end : ℕ) → mark_of text 0 end ≡ none
unfolding mark_of
mark-none-at text end = refl

module _ (text : List ℕ) (from to : ℕ) where
  -- the beginning of a token, and a part of it, as parts of the text
  part-first : (n : ℕ) → n ≤ to - from → range from (from + n) text ≡ take n (range from to text)
  unfolding range
  part-first n l = let e : from + n - from ≡ n = omega arith in rw e (sym (take-take n (to - from) (drop from text) l))

  part-second : (m n : ℕ) → n ≤ to - from → range (from + m + 1) (from + n) text ≡ take (n - (m + 1)) (drop (m + 1) (range from to text))
  unfolding range
  part-second m n l =
      let e : from + n - (from + m + 1) ≡ n - (m + 1) = omega arith in
      let g : from + (m + 1) ≡ from + m + 1 = omega arith in
      rw (e, drop-take (m + 1) (to - from) (drop from text), drop-drop (m + 1) from text, g) (sym (take-take (n - (m + 1)) (to - from - (m + 1)) (drop (from + m + 1) text) (omega arith)))

  -- the three ways in which a span is computed
  module _ {r : Span} {size own other : ℕ} {part : Option (List ℕ)} (inside : from + size ≤ length text) (b : Before from size own other r) where
    stands-none : size ≤ own → part ≡ none → StandsFor text part r
    stands-none l e =
        let at = b.absent l in
        record { is = rw (at.0, mark-none-at text r.end) (sym e); begins = omega arith; ends = omega arith }

    stands-first : size ≡ to - from → own < size → own ≤ other → part ≡ some (take own (range from to text)) → StandsFor text part r
    stands-first s h l e =
        let at = b.first h l in
        record {
          is = rw (at.0, at.1, mark-at text from (from + own), part-first own (omega arith)) (sym e);
          begins = omega arith;
          ends = omega arith;
        }

    stands-second : size ≡ to - from → own < size → other < own → part ≡ some (take (own - (other + 1)) (drop (other + 1) (range from to text))) → StandsFor text part r
    stands-second s h l e =
        let at = b.second h l in
        let next : from + other + 2 ≡ from + other + 1 + 1 = omega arith in
        record {
          is = rw (at.0, at.1, next, mark-at text (from + other + 1) (from + own), part-second other own (omega arith)) (sym e);
          begins = omega arith;
          ends = omega arith;
        }

  module _ {r : Span} {size m n : ℕ} (rises : from ≤ to) (within : to ≤ length text) (sized : size ≡ to - from)
      (c : First 58 (range from to text) m) (e : First 61 (range from to text) n) where
    pub mark-stands : Before from size n m r → StandsFor text (split (range from to text)).mark r
    mark-stands b = go (dec_lt n size) (dec_lt m n)
      where
        go : Dec (n < size) → Dec (m < n) → StandsFor text (split (range from to text)).mark r
        go (yes h) (yes l) = stands-second (omega arith) b sized h l (mark-second c e l (omega (arith, range_length from to text rises within)))
        go (yes h) (no no-l) = stands-first (omega arith) b sized h (omega arith) (mark-first c e (omega arith) (omega (arith, range_length from to text rises within)))
        go (no no-h) _ = stands-none (omega arith) b (omega arith) (mark-none c e (omega (arith, range_length from to text rises within)))

    pub local-stands : Before from size m n r → StandsFor text (split (range from to text)).local r
    local-stands b = go (dec_lt m size) (dec_lt n m)
      where
        go : Dec (m < size) → Dec (n < m) → StandsFor text (split (range from to text)).local r
        go (yes h) (yes l) = stands-second (omega arith) b sized h l (local_second c e l (omega (arith, range_length from to text rises within)))
        go (yes h) (no no-l) = stands-first (omega arith) b sized h (omega arith) (local-first c e (omega arith) (omega (arith, range_length from to text rises within)))
        go (no no-h) _ = stands-none (omega arith) b (omega arith) (local-none c e (omega (arith, range_length from to text rises within)))

-- the same span for the same numbers
pub before-same : {from size own other size' own' other' : ℕ} {r : Span} → size ≡ size' → own ≡ own' → other ≡ other' → Before from size own other r
    → Before from size' own' other' r
before-same p q s b = rw (← p, ← q, ← s) b

-- what a tag tells: there is no part, or it is this part of the text
module _ {text : List ℕ} {part : Option (List ℕ)} {r : Span} (s : StandsFor text part r) where
  pub stands-absent : r.tag ≡ 0 → part ≡ none
  stands-absent e = sym s.is ∙ rw e (mark-none-at text r.end)

  pub stands-there : 1 ≤ r.tag → part ≡ some (range (r.tag - 1) r.end text)
  stands-there l =
      let e : r.tag ≡ r.tag - 1 + 1 = omega arith in
      sym s.is ∙ (ap (λ (k : ℕ). mark_of text k r.end) e ∙ mark-at text (r.tag - 1) r.end)

-- a token of another length is not one byte; one of one byte is that byte alone
same-other : (t : List ℕ) (b : ℕ) → (length t ≡ 1 → ⊥) → false ≡ same t (b ∷ [])
unfolding same both
same-other [] b no_one = refl
same-other (x ∷ []) b no_one = absurd (no_one refl)
same-other (x ∷ (y ∷ ys)) b no_one = pick_out (equal x b)
  where
    pick_out : (q : Bool) → false ≡ both q false
    pick_out true = refl
    pick_out false = refl

same-single : (x b : ℕ) → equal x b ≡ same (x ∷ []) (b ∷ [])
unfolding same both
same-single x b = pick-in (equal x b)
  where
    pick-in : (q : Bool) → q ≡ both q true
    pick-in true = refl
    pick-in false = refl

module _ (text : List ℕ) (from to b : ℕ) (rises : from ≤ to) (within : to ≤ length text) where
  pub token-other : (to - from ≡ 1 → ⊥) → false ≡ same (range from to text) (b ∷ [])
  token-other other = same-other (range from to text) b (λ one. other (sym (range_length from to text rises within) ∙ one))

  one_byte : to - from ≡ 1 → range from to text ≡ get_or text from 0 ∷ []
  unfolding range
  one_byte one = let there : from < length text = omega arith in rw (one, drop-cons text from 0 there) refl

  pub token-single : to - from ≡ 1 → equal (get_or text from 0) b ≡ same (range from to text) (b ∷ [])
  token-single one = rw (one_byte one) (same-single (get_or text from 0) b)
