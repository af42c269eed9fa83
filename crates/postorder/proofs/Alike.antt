-- Records that are alike: a well-formed record of one file and one of another file with the same bytes. All that is read from the one is
-- read from the other.
use Prim.Native.Nat.{ℕ, zero, suc, ◌+◌, ◌*◌, ◌≤◌, ◌<◌}
use mathlib.Core.Path.{◌≡◌, refl}
use mathlib.Core.Bool.{Bool, true, false}
use mathlib.Core.Logic.{◌⊎◌, inl, inr}
use mathlib.Core.List.{List}
use native.Mathlib.Omega.{arith}
use lib.ListN.{length, take, drop, get_or, length-take, length-drop}
use lib.Seq.{get_or-take, get_or-drop, ext_get_or}
use Rattle.frames.specs.Logic.{equal, pick, either, rows}
use Rattle.frames.specs.Layout.{byte, u16, u32, length_at, kind_at, next_at, fixed_size, asserts, supposes, lists_symbols, class_at, scope_end_at, hyp_count, pair_count, listed_count, lists_from, pairs_from, listed_from, rest_from, rest_size, rest_at, hyps_at, pair_at, pairs_at, symbol_count, symbols_from, symbols_at}
use Rattle.frames.proofs.Chains.{equal-true}
use Rattle.frames.proofs.Tells.{either_true}
use Rattle.frames.proofs.Fine.{WellFormed}

pub record Alike (f : List ℕ) (o : ℕ) (g : List ℕ) (o' : ℕ) : Type 0 where
  pub formed : WellFormed f o
  pub inside : o' + 4 + length_at f o ≤ length g
  pub bytes : (i : ℕ) → i < 4 + length_at f o → byte f (o + i) ≡ byte g (o' + i)

pick-alike : {A : Type 0} (t : Bool) (a b c : A) → (t ≡ true → a ≡ b) → pick t a c ≡ pick t b c
unfolding pick
pick-alike true a b c e = e refl
pick-alike false a b c e = refl

pick-both : {A : Type 0} (t : Bool) {a b c d : A} → (t ≡ true → a ≡ b) → (t ≡ false → c ≡ d) → pick t a c ≡ pick t b d
unfolding pick
pick-both true e e' = e refl
pick-both false e e' = e' refl

rows_alike : {A : Type 0} (read read' : ℕ → A) (step n from from' : ℕ) → ((j : ℕ) → j < n → read (from + step * j) ≡ read' (from' + step * j))
    → rows read step n from ≡ rows read' step n from'
unfolding rows
rows_alike read read' step zero from from' f = refl
rows_alike {A} read read' step (suc n) from from' f =
    let at_first : from + step * 0 ≡ from = omega arith in
    let at-first' : from' + step * 0 ≡ from' = omega arith in
    let head : read from ≡ read' from' = rw (at_first, at-first') at (f 0 (omega arith)) in
    let rest : rows read step n (from + step) ≡ rows read' step n (from' + step) =
    rows_alike read read' step n (from + step) (from' + step)
    (λ j l.
    let next : from + step * suc j ≡ from + step + step * j = omega arith in
    let next' : from' + step * suc j ≡ from' + step + step * j = omega arith in
    rw (next, next') at (f (suc j) (omega arith))) in
    cc

either_second : (t : Bool) {u : Bool} → u ≡ true → either t u ≡ true
unfolding either
either_second true e = refl
either_second false e = e

module _ {f : List ℕ} {o : ℕ} {g : List ℕ} {o' : ℕ} (a : Alike f o g o') where
  u16-alike : (i : ℕ) → i + 1 < 4 + length_at f o → u16 f (o + i) ≡ u16 g (o' + i)
  unfolding u16
  u16-alike i l =
      let e : o + i + 1 ≡ o + (i + 1) = omega arith in
      let e' : o' + i + 1 ≡ o' + (i + 1) = omega arith in
      cc (a.bytes i (omega arith), a.bytes (i + 1) l)

  u32-alike : (i : ℕ) → i + 3 < 4 + length_at f o → u32 f (o + i) ≡ u32 g (o' + i)
  unfolding u32
  u32-alike i l =
      let e : o + i + 2 ≡ o + (i + 2) = omega arith in
      let e' : o' + i + 2 ≡ o' + (i + 2) = omega arith in
      cc (u16-alike i (omega arith), u16-alike (i + 2) (omega arith))

  pub length-alike : length_at f o ≡ length_at g o'
  unfolding length_at
  length-alike =
      let z : o + 0 ≡ o = omega arith in
      let z' : o' + 0 ≡ o' = omega arith in
      rw (z, z') at (u32-alike 0 (omega arith))

  pub kind-alike : kind_at f o ≡ kind_at g o'
  unfolding kind_at
  kind-alike = let l = a.formed.long in u16-alike 4 (omega arith)

  -- where the lists lie
  counted : 6 + fixed_size (kind_at f o) + 4 * hyp_count f o + 4 * pair_count f o + 2 * listed_count f o ≤ 4 + length_at f o
  unfolding rest_from listed_from pairs_from lists_from next_at
  counted = let l = a.formed.lists in omega arith

  fixed-six : lists_symbols (kind_at f o) ≡ true → fixed_size (kind_at f o) ≡ 6
  unfolding lists_symbols asserts fixed_size
  fixed-six e = by_kind (either_true _ _ e)
    where
      by-assert : (equal (kind_at f o) 4 ≡ true) ⊎ (equal (kind_at f o) 5 ≡ true) → fixed_size (kind_at f o) ≡ 6
      by-assert (inl k) = rw (equal-true (kind_at f o) 4 k)
      by-assert (inr k) = rw (equal-true (kind_at f o) 5 k)

      by_kind : (equal (kind_at f o) 3 ≡ true) ⊎ (either (equal (kind_at f o) 4) (equal (kind_at f o) 5) ≡ true)
          → fixed_size (kind_at f o) ≡ 6
      by_kind (inl k) = rw (equal-true (kind_at f o) 3 k)
      by_kind (inr k) = by-assert (either_true _ _ k)

  fixed-float : kind_at f o ≡ 2 → fixed_size (kind_at f o) ≡ 8
  unfolding fixed_size
  fixed-float k = rw k

  asserts-lists : asserts (kind_at f o) ≡ true → lists_symbols (kind_at f o) ≡ true
  unfolding lists_symbols
  asserts-lists e = tried (equal (kind_at f o) 3)
    where
      tried : (t : Bool) → either t (asserts (kind_at f o)) ≡ true
      tried t = either_second t e

  pub hyp-count-alike : hyp_count f o ≡ hyp_count g o'
  unfolding hyp_count
  hyp-count-alike =
      rw (← kind-alike)
      (pick-alike (asserts (kind_at f o)) (u16 f (o + 6)) (u16 g (o' + 6)) 0
      (λ t. let s = fixed-six (asserts-lists t) in u16-alike 6 (omega (arith, counted))))

  pub pair-count-alike : pair_count f o ≡ pair_count g o'
  unfolding pair_count
  pair-count-alike =
      rw (← kind-alike)
      (pick-alike (asserts (kind_at f o)) (u16 f (o + 8)) (u16 g (o' + 8)) 0
      (λ t. let s = fixed-six (asserts-lists t) in u16-alike 8 (omega (arith, counted))))

  pub listed-count-alike : listed_count f o ≡ listed_count g o'
  unfolding listed_count
  listed-count-alike =
      rw (← kind-alike)
      (pick-alike (lists_symbols (kind_at f o)) (u16 f (o + 10)) (u16 g (o' + 10)) 0
      (λ t. let s = fixed-six t in u16-alike 10 (omega (arith, counted))))

  -- the lists themselves: each member lies within the record
  lists_at : lists_from f o ≡ o + (6 + fixed_size (kind_at f o))
  unfolding lists_from
  lists_at = omega arith

  lists-at' : lists_from g o' ≡ o' + (6 + fixed_size (kind_at f o))
  unfolding lists_from
  lists-at' = rw (← kind-alike) (omega arith)

  pub hyps-alike : hyps_at f o ≡ hyps_at g o'
  unfolding hyps_at
  hyps-alike =
      rw (← hyp-count-alike)
      (rows_alike (u32 f) (u32 g) 4 (hyp_count f o) (lists_from f o) (lists_from g o')
      (λ j l.
      let i = 6 + fixed_size (kind_at f o) + 4 * j in
      let e : lists_from f o + 4 * j ≡ o + i = omega (arith, lists_at) in
      let e' : lists_from g o' + 4 * j ≡ o' + i = omega (arith, lists-at') in
      rw (e, e') (u32-alike i (omega (arith, counted)))))

  pairs-at : pairs_from f o ≡ o + (6 + fixed_size (kind_at f o) + 4 * hyp_count f o)
  unfolding pairs_from
  pairs-at = omega (arith, lists_at)

  pairs-at' : pairs_from g o' ≡ o' + (6 + fixed_size (kind_at f o) + 4 * hyp_count f o)
  unfolding pairs_from
  pairs-at' = omega (arith, lists-at', hyp-count-alike)

  pair-alike : (i : ℕ) → i + 3 < 4 + length_at f o → pair_at f (o + i) ≡ pair_at g (o' + i)
  unfolding pair_at
  pair-alike i l =
      let e : o + i + 2 ≡ o + (i + 2) = omega arith in
      let e' : o' + i + 2 ≡ o' + (i + 2) = omega arith in
      cc (u16-alike i (omega arith), u16-alike (i + 2) (omega arith))

  pub pairs-alike : pairs_at f o ≡ pairs_at g o'
  unfolding pairs_at
  pairs-alike =
      rw (← pair-count-alike)
      (rows_alike (pair_at f) (pair_at g) 4 (pair_count f o) (pairs_from f o) (pairs_from g o')
      (λ j l.
      let i = 6 + fixed_size (kind_at f o) + 4 * hyp_count f o + 4 * j in
      let e : pairs_from f o + 4 * j ≡ o + i = omega (arith, pairs-at) in
      let e' : pairs_from g o' + 4 * j ≡ o' + i = omega (arith, pairs-at') in
      rw (e, e') (pair-alike i (omega (arith, counted)))))

  listed_at : listed_from f o ≡ o + (6 + fixed_size (kind_at f o) + 4 * hyp_count f o + 4 * pair_count f o)
  unfolding listed_from
  listed_at = omega (arith, pairs-at)

  listed-at' : listed_from g o' ≡ o' + (6 + fixed_size (kind_at f o) + 4 * hyp_count f o + 4 * pair_count f o)
  unfolding listed_from
  listed-at' = omega (arith, pairs-at', pair-count-alike)

  symbols-of : (n i : ℕ) → i + 2 * n ≤ 4 + length_at f o → rows (u16 f) 2 n (o + i) ≡ rows (u16 g) 2 n (o' + i)
  symbols-of n i l =
      rows_alike (u16 f) (u16 g) 2 n (o + i) (o' + i)
      (λ j k.
      let e : o + i + 2 * j ≡ o + (i + 2 * j) = omega arith in
      let e' : o' + i + 2 * j ≡ o' + (i + 2 * j) = omega arith in
      rw (e, e') (u16-alike (i + 2 * j) (omega arith)))

  pub symbols-alike : symbols_at f o ≡ symbols_at g o'
  unfolding symbols_at symbol_count symbols_from pick
  symbols-alike = rw (← kind-alike, ← listed-count-alike) (tried (equal (kind_at f o) 2) refl)
    where
      tried : (t : Bool) → equal (kind_at f o) 2 ≡ t
          → rows (u16 f) 2 (pick t 2 (listed_count f o)) (pick t (o + 10) (listed_from f o))
          ≡ rows (u16 g) 2 (pick t 2 (listed_count f o)) (pick t (o' + 10) (listed_from g o'))
      tried true e = let s = fixed-float (equal-true _ _ e) in symbols-of 2 10 (omega (arith, counted))
      tried false e = rw (listed_at, listed-at') (symbols-of (listed_count f o) _ (omega (arith, counted)))

  -- a name, a label or a text
  rest-at : rest_from f o ≡ o + (6 + fixed_size (kind_at f o) + 4 * hyp_count f o + 4 * pair_count f o + 2 * listed_count f o)
  unfolding rest_from
  rest-at = omega (arith, listed_at)

  rest-at' : rest_from g o' ≡ o' + (6 + fixed_size (kind_at f o) + 4 * hyp_count f o + 4 * pair_count f o + 2 * listed_count f o)
  unfolding rest_from
  rest-at' = omega (arith, listed-at', listed-count-alike)

  pub lists-inside : rest_from g o' ≤ next_at g o'
  unfolding next_at
  lists-inside = omega (arith, rest-at', length-alike, counted)

  pub rest-size-alike : rest_size f o ≡ rest_size g o'
  unfolding rest_size next_at
  rest-size-alike = omega (arith, rest-at, rest-at', length-alike, counted)

  rest-inside : rest_from f o + rest_size f o ≤ length f
  unfolding rest_size
  rest-inside = omega (arith, a.formed.within, a.formed.lists)

  rest-inside' : rest_from g o' + rest_size f o ≤ length g
  unfolding rest_size next_at
  rest-inside' = omega (arith, a.inside, rest-at, rest-at', counted)

  each-byte : (i : ℕ) → i < rest_size f o → get_or f (rest_from f o + i) 0 ≡ get_or g (rest_from g o' + i) 0
  unfolding byte rest_size next_at
  each-byte i l =
      let k = 6 + fixed_size (kind_at f o) + 4 * hyp_count f o + 4 * pair_count f o + 2 * listed_count f o + i in
      let e : rest_from f o + i ≡ o + k = omega (arith, rest-at) in
      let e' : rest_from g o' + i ≡ o' + k = omega (arith, rest-at') in
      rw (e, e') (a.bytes k (omega (arith, rest-at, counted)))

  pub rest-alike : rest_at f o ≡ rest_at g o'
  unfolding rest_at
  rest-alike = rw (← rest-size-alike) (ext_get_or 0 _ _ sizes each)
    where
      sizes : length (take (rest_size f o) (drop (rest_from f o) f)) ≡ length (take (rest_size f o) (drop (rest_from g o') g))
      sizes = simp (length-take, length-drop) (omega (arith, rest-inside, rest-inside'))

      each : (i : ℕ) → i < length (take (rest_size f o) (drop (rest_from f o) f))
          → get_or (take (rest_size f o) (drop (rest_from f o) f)) i 0 ≡ get_or (take (rest_size f o) (drop (rest_from g o') g)) i 0
      each i l =
          let k : i < rest_size f o = omega (arith, length-take (rest_size f o) (drop (rest_from f o) f)) in
          simp (get_or-take, get_or-drop) (each-byte i k)

  -- a scope end and a class, where there is one
  supposes-fixed : supposes (kind_at f o) ≡ true → 6 ≤ fixed_size (kind_at f o)
  unfolding supposes fixed_size
  supposes-fixed e = by_kind (either_true _ _ e)
    where
      by_kind : (equal (kind_at f o) 2 ≡ true) ⊎ (equal (kind_at f o) 3 ≡ true) → 6 ≤ fixed_size (kind_at f o)
      by_kind (inl k) = rw (equal-true (kind_at f o) 2 k) (omega arith)
      by_kind (inr k) = rw (equal-true (kind_at f o) 3 k) (omega arith)

  pub scope-alike : supposes (kind_at f o) ≡ true → scope_end_at f o ≡ scope_end_at g o'
  unfolding scope_end_at
  scope-alike e = let s = supposes-fixed e in u32-alike 6 (omega (arith, counted))

  symbol-fixed : kind_at f o ≡ 1 → fixed_size (kind_at f o) ≡ 1
  unfolding fixed_size
  symbol-fixed k = rw k

  pub class-alike : kind_at f o ≡ 1 → class_at f o ≡ class_at g o'
  unfolding class_at
  class-alike k = let s = symbol-fixed k in a.bytes 6 (omega (arith, counted))
