-- Where the parts of a record lie: the layout table of the frame file, on the file's bytes. A record is named by its offset,
-- that of its first length byte. Every reader is total: a byte past the end of the file reads as 0. Offsets within the record:
--   length 0, kind 4, body 6
--   1 symbol     class 6; name 7
--   2 $f         scope end 6, typecode 10, variable 12; label 14
--   3 $e         scope end 6, n 10; n symbols 12; label
--   4 $a, 5 $p   h 6, d 8, n 10; h statement numbers 12, d pairs, n symbols; label
--   6 proof      text 6
use Rattle.std.specs.Prelude.{ℕ, ◌+◌, ◌-◌, ◌*◌, Bool, List, [], ◌∷◌, get_or, take, drop}
use Rattle.frames.specs.Logic.{equal, pick, either, rows}

-- numbers are little-endian
unfoldable pub byte : List ℕ → ℕ → ℕ
byte f i = get_or f i 0

unfoldable pub u16 : List ℕ → ℕ → ℕ
u16 f i = byte f i + 256 * byte f (i + 1)

unfoldable pub u32 : List ℕ → ℕ → ℕ
u32 f i = u16 f i + 65536 * u16 f (i + 2)

-- a record: length (4 bytes; counts what follows it), kind (2 bytes), body
unfoldable pub length_at : List ℕ → ℕ → ℕ
length_at f o = u32 f o

unfoldable pub kind_at : List ℕ → ℕ → ℕ
kind_at f o = u16 f (o + 4)

-- where the next record begins
unfoldable pub next_at : List ℕ → ℕ → ℕ
next_at f o = o + 4 + length_at f o

-- the fixed part of each body, by kind (there is no kind 0)
unfoldable pub fixed_size : ℕ → ℕ
fixed_size k = get_or (0 ∷ 1 ∷ 8 ∷ 6 ∷ 6 ∷ 6 ∷ 0 ∷ []) k 0

-- $a and $p
unfoldable pub asserts : ℕ → Bool
asserts k = either (equal k 4) (equal k 5)

-- $f and $e
unfoldable pub supposes : ℕ → Bool
supposes k = either (equal k 2) (equal k 3)

-- $e, $a and $p: the kinds that list n symbols
unfoldable pub lists_symbols : ℕ → Bool
lists_symbols k = either (equal k 3) (asserts k)

-- the kinds that are numbered as statements
unfoldable pub is_statement : ℕ → Bool
is_statement k = either (supposes k) (asserts k)

-- the class of a symbol: 0 constant, 1 variable
unfoldable pub class_at : List ℕ → ℕ → ℕ
class_at f o = byte f (o + 6)

-- the scope end of a $f or $e
unfoldable pub scope_end_at : List ℕ → ℕ → ℕ
scope_end_at f o = u32 f (o + 6)

-- how many hypotheses and pairs a $a or $p lists
unfoldable pub hyp_count : List ℕ → ℕ → ℕ
hyp_count f o = pick (asserts (kind_at f o)) (u16 f (o + 6)) 0

unfoldable pub pair_count : List ℕ → ℕ → ℕ
pair_count f o = pick (asserts (kind_at f o)) (u16 f (o + 8)) 0

-- how many symbols a $e, $a or $p lists
unfoldable pub listed_count : List ℕ → ℕ → ℕ
listed_count f o = pick (lists_symbols (kind_at f o)) (u16 f (o + 10)) 0

-- the lists follow the fixed part: hypotheses, pairs, symbols
unfoldable pub lists_from : List ℕ → ℕ → ℕ
lists_from f o = o + 6 + fixed_size (kind_at f o)

unfoldable pub pairs_from : List ℕ → ℕ → ℕ
pairs_from f o = lists_from f o + 4 * hyp_count f o

unfoldable pub listed_from : List ℕ → ℕ → ℕ
listed_from f o = pairs_from f o + 4 * pair_count f o

-- a name, a label or a proof's text takes the rest of the body
unfoldable pub rest_from : List ℕ → ℕ → ℕ
rest_from f o = listed_from f o + 2 * listed_count f o

unfoldable pub rest_size : List ℕ → ℕ → ℕ
rest_size f o = next_at f o - rest_from f o

unfoldable pub rest_at : List ℕ → ℕ → List ℕ
rest_at f o = take (rest_size f o) (drop (rest_from f o) f)

-- the statement numbers of the listed hypotheses
unfoldable pub hyps_at : List ℕ → ℕ → List ℕ
hyps_at f o = rows (u32 f) 4 (hyp_count f o) (lists_from f o)

-- the pairs, two symbol numbers each
unfoldable pub pair_at : List ℕ → ℕ → ℕ × ℕ
pair_at f i = (u16 f i, u16 f (i + 2))

unfoldable pub pairs_at : List ℕ → ℕ → List (ℕ × ℕ)
pairs_at f o = rows (pair_at f) 4 (pair_count f o) (pairs_from f o)

-- the symbols of a statement, the typecode first; those of a $f are its typecode and its variable
unfoldable pub symbol_count : List ℕ → ℕ → ℕ
symbol_count f o = pick (equal (kind_at f o) 2) 2 (listed_count f o)

unfoldable pub symbols_from : List ℕ → ℕ → ℕ
symbols_from f o = pick (equal (kind_at f o) 2) (o + 10) (listed_from f o)

unfoldable pub symbols_at : List ℕ → ℕ → List ℕ
symbols_at f o = rows (u16 f) 2 (symbol_count f o) (symbols_from f o)

unfoldable pub typecode_at : List ℕ → ℕ → ℕ
typecode_at f o = get_or (symbols_at f o) 0 0

-- the variable of a $f
unfoldable pub variable_at : List ℕ → ℕ → ℕ
variable_at f o = get_or (symbols_at f o) 1 0
