-- A record reads the same in the file from `o` on: what stands there at `i` is what stands at `o + i` in the file. A law for each reader, in
-- the order of the layout.
use Prim.Native.Nat.{ℕ, zero, suc, ◌+◌, ◌≤◌, ◌<◌}
use mathlib.Core.Path.{◌≡◌, refl, sym, ap, ◌∙◌}
use mathlib.Core.Bool.{Bool, true, false}
use mathlib.Core.List.{List}
use native.Mathlib.Omega.{arith}
use lib.ListN.{length, drop, length-drop}
use lib.Seq.{get_or-drop, drop-drop}
use Rattle.frames.specs.Logic.{below, equal, pick, rows}
use Rattle.frames.specs.Layout.{byte, u16, u32, length_at, kind_at, next_at, fixed_size, class_at, scope_end_at, hyp_count, pair_count, listed_count, lists_from, pairs_from, listed_from, rest_from, rest_size, rest_at, hyps_at, pair_at, pairs_at, symbol_count, symbols_from, symbols_at}
use Rattle.frames.specs.Table.{cut_short, off_layout, bad_record, too_many, no_proof}
use Rattle.frames.specs.Database.{symbol_at, statement_at}
use Rattle.frames.proofs.Chains.{below-yes, below-no, below_true, below_false}
use Rattle.machine_long.proofs.Quick.{symbol_here, statement_here}

-- a test of two numbers, both moved as far
below-moved : (o a b : ℕ) → below (o + a) (o + b) ≡ below a b
below-moved o a b = go (below a b) refl
  where
    go : (t : Bool) → below a b ≡ t → below (o + a) (o + b) ≡ below a b
    go true e = let h : a < b = below_true a b e in below-yes (omega arith) ∙ sym e
    go false e = let h : b ≤ a = below_false a b e in below-no (omega arith) ∙ sym e

pick-moved : (t : Bool) (o a b c d : ℕ) → c ≡ o + a → d ≡ o + b → pick t c d ≡ o + pick t a b
unfolding pick
pick-moved true o a b c d p q = p
pick-moved false o a b c d p q = q

rows-moved : {A : Type 0} (o : ℕ) (g h : ℕ → A) (step n i j : ℕ) → ((i j : ℕ) → j ≡ o + i → g i ≡ h j) → j ≡ o + i
    → rows g step n i ≡ rows h step n j
unfolding rows
rows-moved o g h step zero i j s e = refl
rows-moved o g h step (suc n) i j s e =
    let first : g i ≡ h j = s i j e in
    let others : rows g step n (i + step) ≡ rows h step n (j + step) =
    rows-moved o g h step n (i + step) (j + step) s (omega arith) in
    cc

module _ (f : List ℕ) (o : ℕ) where
  byte-moved : (i j : ℕ) → j ≡ o + i → byte (drop o f) i ≡ byte f j
  unfolding byte
  byte-moved i j e = rw e (get_or-drop o f i 0)

  u16-moved : (i j : ℕ) → j ≡ o + i → u16 (drop o f) i ≡ u16 f j
  unfolding u16
  u16-moved i j e = cc (byte-moved i j e, byte-moved (i + 1) (j + 1) (omega arith))

  u32-moved : (i j : ℕ) → j ≡ o + i → u32 (drop o f) i ≡ u32 f j
  unfolding u32
  u32-moved i j e = cc (u16-moved i j e, u16-moved (i + 2) (j + 2) (omega arith))

  pair-moved : (i j : ℕ) → j ≡ o + i → pair_at (drop o f) i ≡ pair_at f j
  unfolding pair_at
  pair-moved i j e = cc (u16-moved i j e, u16-moved (i + 2) (j + 2) (omega arith))

  module _ (i j : ℕ) (e : j ≡ o + i) where
    pub length_moved : length_at (drop o f) i ≡ length_at f j
    unfolding length_at
    length_moved = u32-moved i j e

    pub kind-moved : kind_at (drop o f) i ≡ kind_at f j
    unfolding kind_at
    kind-moved = u16-moved (i + 4) (j + 4) (omega arith)

    pub class-moved : class_at (drop o f) i ≡ class_at f j
    unfolding class_at
    class-moved = byte-moved (i + 6) (j + 6) (omega arith)

    pub end_moved : scope_end_at (drop o f) i ≡ scope_end_at f j
    unfolding scope_end_at
    end_moved = u32-moved (i + 6) (j + 6) (omega arith)

    hyp-count : hyp_count (drop o f) i ≡ hyp_count f j
    unfolding hyp_count
    hyp-count = cc (kind-moved, u16-moved (i + 6) (j + 6) (omega arith))

    pair-count : pair_count (drop o f) i ≡ pair_count f j
    unfolding pair_count
    pair-count = cc (kind-moved, u16-moved (i + 8) (j + 8) (omega arith))

    listed-count : listed_count (drop o f) i ≡ listed_count f j
    unfolding listed_count
    listed-count = cc (kind-moved, u16-moved (i + 10) (j + 10) (omega arith))

    symbol-count : symbol_count (drop o f) i ≡ symbol_count f j
    unfolding symbol_count
    symbol-count = cc (kind-moved, listed-count)

    -- where the parts lie
    pub next-moved : next_at f j ≡ o + next_at (drop o f) i
    unfolding next_at
    next-moved = omega (arith, length_moved)

    lists-from : lists_from f j ≡ o + lists_from (drop o f) i
    unfolding lists_from
    lists-from = omega (arith, ap fixed_size kind-moved)

    pairs-from : pairs_from f j ≡ o + pairs_from (drop o f) i
    unfolding pairs_from
    pairs-from = omega (arith, lists-from, hyp-count)

    listed-from : listed_from f j ≡ o + listed_from (drop o f) i
    unfolding listed_from
    listed-from = omega (arith, pairs-from, pair-count)

    rest-from : rest_from f j ≡ o + rest_from (drop o f) i
    unfolding rest_from
    rest-from = omega (arith, listed-from, listed-count)

    rest-size : rest_size (drop o f) i ≡ rest_size f j
    unfolding rest_size
    rest-size = omega (arith, rest-from, next-moved)

    symbols-from : symbols_from f j ≡ o + symbols_from (drop o f) i
    unfolding symbols_from
    symbols-from = rw kind-moved (pick-moved (equal (kind_at f j) 2) o _ _ _ _ (omega arith) listed-from)

    -- what they hold
    pub rest-moved : rest_at (drop o f) i ≡ rest_at f j
    unfolding rest_at
    rest-moved = rw (rest-size, rest-from, drop-drop)

    pub hyps-moved : hyps_at (drop o f) i ≡ hyps_at f j
    unfolding hyps_at
    hyps-moved = rw hyp-count (rows-moved o (u32 (drop o f)) (u32 f) 4 (hyp_count f j) _ _ u32-moved lists-from)

    pub pairs-moved : pairs_at (drop o f) i ≡ pairs_at f j
    unfolding pairs_at
    pairs-moved = rw pair-count (rows-moved o (pair_at (drop o f)) (pair_at f) 4 (pair_count f j) _ _ pair-moved pairs-from)

    pub symbols-moved : symbols_at (drop o f) i ≡ symbols_at f j
    unfolding symbols_at
    symbols-moved = rw symbol-count (rows-moved o (u16 (drop o f)) (u16 f) 2 (symbol_count f j) _ _ u16-moved symbols-from)

  -- a whole record at the front
  pub symbol-moved : symbol_here (drop o f) o ≡ symbol_at f o
  unfolding symbol_here symbol_at
  symbol-moved = cc (class-moved 0 o (omega arith), rest-moved 0 o (omega arith))

  pub statement-moved : statement_here (drop o f) o ≡ statement_at f o
  unfolding statement_here statement_at
  statement-moved =
      let front : o ≡ o + 0 = omega arith in
      let text : rest_at (drop o f) (next_at (drop o f) 0) ≡ rest_at f (next_at f o) =
      rest-moved (next_at (drop o f) 0) (next_at f o) (next-moved 0 o front) in
      cc (kind-moved 0 o front, end_moved 0 o front, hyps-moved 0 o front, pairs-moved 0 o front, symbols-moved 0 o front, rest-moved 0 o front)

  -- rows 1, 2 and 7; the file is not yet at its end
  cut_moved : o ≤ length f → cut_short (drop o f) 0 ≡ cut_short f o
  unfolding cut_short
  cut_moved h =
      let front : o ≡ o + 0 = omega arith in
      let all : length f ≡ o + length (drop o f) = omega (arith, length-drop o f) in
      sym (rw (all, next-moved 0 o front) (below-moved o (length (drop o f)) (next_at (drop o f) 0)))

  layout-moved : off_layout (drop o f) 0 ≡ off_layout f o
  unfolding off_layout
  layout-moved =
      let front : o ≡ o + 0 = omega arith in
      let fits : below (next_at f o) (rest_from f o) ≡ below (next_at (drop o f) 0) (rest_from (drop o f) 0) =
      rw (next-moved 0 o front, rest-from 0 o front) (below-moved o _ _) in
      cc (fits, kind-moved 0 o front, listed-count 0 o front, rest-size 0 o front)

  pub record-moved : o ≤ length f → bad_record (drop o f) 0 ≡ bad_record f o
  unfolding bad_record
  record-moved h =
      let front : o ≡ o + 0 = omega arith in
      cc (cut_moved h, length_moved 0 o front, kind-moved 0 o front, class-moved 0 o front, layout-moved)

  pub many-moved : (syms stmts : List ℕ) → too_many (drop o f) syms stmts 0 ≡ too_many f syms stmts o
  unfolding too_many
  many-moved syms stmts =
      let front : o ≡ o + 0 = omega arith in
      cc (kind-moved 0 o front, hyp-count 0 o front, pair-count 0 o front, listed-count 0 o front, rest-size 0 o front)

  pub proof-moved : (owed : Bool) → no_proof (drop o f) owed 0 ≡ no_proof f owed o
  unfolding no_proof
  proof-moved owed = cc (kind-moved 0 o (omega arith))
