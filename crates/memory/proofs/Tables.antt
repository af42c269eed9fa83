-- Rows of a table: a row that was stored stands there, and the rows before it stay.
use Prim.Native.Nat.{ℕ, ◌+◌, ◌*◌, ◌≤◌, ◌<◌}
use mathlib.Core.Path.{◌≡◌, refl, sym, ◌∙◌, ap}
use mathlib.Core.List.{List, [], ◌∷◌}
use native.Mathlib.Omega.{arith}
use lib.ListN.{length, get_or}
use Rattle.bitset.specs.Sets.{words_at}
use Rattle.bitset.proofs.Laws as sets
use Rattle.packed.specs.Pool.{written}
use Rattle.packed.proofs.Written.{written-length, written-before, range-written}
use Rattle.packed.proofs.Copies.{range_at}
use Rattle.packed.proofs.Imaging.{four-words}
use Rattle.memory.specs.declared.table.Row.{Row}
use Rattle.memory.specs.Table.{word, SetAt, RowAt, row_words, with_row}

-- four words that are the same make the same list
words : {a b c d a' b' c' d' : ℕ} → a ≡ a' → b ≡ b' → c ≡ c' → d ≡ d' → a ∷ b ∷ c ∷ d ∷ [] ≡ a' ∷ b' ∷ c' ∷ d' ∷ []
words p q r s = cc

-- a row that is read word by word
pub row_read : (table : List ℕ) (k : ℕ) (row : Row) → row.head ≡ get_or table (10 * k) 0 → row.from ≡ get_or table (10 * k + 1) 0
    → row.to ≡ get_or table (10 * k + 2) 0 → row.tag ≡ get_or table (10 * k + 3) 0 → row.end ≡ get_or table (10 * k + 4) 0
    → row.node ≡ get_or table (10 * k + 5) 0 → SetAt table (10 * k + 6) row.vars.words → RowAt table k row
unfolding word
row_read table k row h f t g e n s =
    record {
      head = h ∙ ap at-word (omega arith);
      from = f;
      to = t;
      tag = g;
      end = e;
      node = n;
      vars = s.is ∙ words refl (ap at-word (omega arith)) (ap at-word (omega arith)) (ap at-word (omega arith));
    }
  where
    at-word : ℕ → ℕ
    at-word i = get_or table i 0

-- the same, its set taken from the table at once
pub row_read-words : (table : List ℕ) (k : ℕ) (row : Row) → row.head ≡ get_or table (10 * k) 0 → row.from ≡ get_or table (10 * k + 1) 0
    → row.to ≡ get_or table (10 * k + 2) 0 → row.tag ≡ get_or table (10 * k + 3) 0 → row.end ≡ get_or table (10 * k + 4) 0
    → row.node ≡ get_or table (10 * k + 5) 0 → row.vars.words ≡ words_at table (10 * k + 6) 4 → RowAt table k row
row_read-words table k row h f t g e n s = row_read table k row h f t g e n (record { is = s ∙ sets.four-words table (10 * k + 6) })

-- a row is as long as ten words
pub row-length : (row : Row) → length (row_words row) ≡ 10
unfolding row_words
row-length row = refl

module _ (row : Row) (k : ℕ) (table : List ℕ) (fits : 10 * k + 10 ≤ length table) where
  stored : 10 * k + length (row_words row) ≤ length table
  stored = omega (arith, row-length row)

  pub with-row-length : length (with_row row k table) ≡ length table
  unfolding with_row
  with-row-length = written-length (row_words row) (10 * k) table stored

  -- word j of what was stored
  word-new : (j : ℕ) → j < 10 → word (with_row row k table) k j ≡ get_or (row_words row) j 0
  unfolding with_row word
  word-new j few =
      let e = row-length row in
      sym (range_at (10 * k) (10 * k + length (row_words row)) (written (row_words row) (10 * k) table) j (omega arith))
      ∙ ap (λ (xs : List ℕ). get_or xs j 0) (range-written (row_words row) (10 * k) table stored)

  -- a word of a row before it
  word_kept : (i j : ℕ) → j < 10 → i < k → word (with_row row k table) i j ≡ word table i j
  unfolding with_row word
  word_kept i j few before = written-before (row_words row) (10 * k) table (10 * i + j) 0 (omega arith) (omega arith)

  pub row_new : length row.vars.words ≡ 4 → RowAt (with_row row k table) k row
  unfolding row_words
  row_new four =
      record {
        head = sym (word-new 0 (omega arith));
        from = sym (word-new 1 (omega arith));
        to = sym (word-new 2 (omega arith));
        tag = sym (word-new 3 (omega arith));
        end = sym (word-new 4 (omega arith));
        node = sym (word-new 5 (omega arith));
        vars =
            let a = word-new 6 (omega arith) in
            let b = word-new 7 (omega arith) in
            let c = word-new 8 (omega arith) in
            let d = word-new 9 (omega arith) in
            sym (four-words row.vars.words four) ∙ words (sym a) (sym b) (sym c) (sym d);
      }

  pub row_kept : (i : ℕ) {r : Row} → i < k → RowAt table i r → RowAt (with_row row k table) i r
  row_kept i before at =
      record {
        head = at.head ∙ sym (word_kept i 0 (omega arith) before);
        from = at.from ∙ sym (word_kept i 1 (omega arith) before);
        to = at.to ∙ sym (word_kept i 2 (omega arith) before);
        tag = at.tag ∙ sym (word_kept i 3 (omega arith) before);
        end = at.end ∙ sym (word_kept i 4 (omega arith) before);
        node = at.node ∙ sym (word_kept i 5 (omega arith) before);
        vars = at.vars ∙ words (sym (word_kept i 6 (omega arith) before)) (sym (word_kept i 7 (omega arith) before)) (sym (word_kept i 8 (omega arith) before)) (sym (word_kept i 9 (omega arith) before));
      }

-- a row of these words
made : ℕ → ℕ → ℕ → ℕ → ℕ → ℕ → List ℕ → Row
made head from to tag end node words =
    record { head = head; from = from; to = to; tag = tag; end = end; node = node; vars = record { words = words } }

made-same : {a b c d e f a' b' c' d' e' f' : ℕ} {ws ws' : List ℕ} → a ≡ a' → b ≡ b' → c ≡ c' → d ≡ d' → e ≡ e' → f ≡ f' → ws ≡ ws'
    → made a b c d e f ws ≡ made a' b' c' d' e' f' ws'
made-same p q r s t u v = cc

-- there is one row at k
pub row_one : {table : List ℕ} {k : ℕ} {r q : Row} → RowAt table k r → RowAt table k q → r ≡ q
unfolding made
row_one x y =
    made-same (x.head ∙ sym y.head) (x.from ∙ sym y.from) (x.to ∙ sym y.to) (x.tag ∙ sym y.tag) (x.end ∙ sym y.end) (x.node ∙ sym y.node)
    (x.vars ∙ sym y.vars)

-- its set has four words
pub row-four : {table : List ℕ} {k : ℕ} {row : Row} → RowAt table k row → length row.vars.words ≡ 4
row-four at = ap length at.vars
