-- When the file is turned away: rows 1 to 7 of the table, in its words. A row is asked only where no row before it holds, so rows
-- 2 to 7 may take the layout for good, and row 6 the numbers for defined. `f` is the file, `o` the offset of
-- the record under judgement, `syms` and `stmts` the offsets of the symbols and of the statements before it, in file order: a
-- symbol number or a statement number counts into them, and the record's own statement number is the length of `stmts`.
use Rattle.std.specs.Prelude.{ℕ, Bool, List, [], ◌∷◌, length, get_or}
use Rattle.frames.specs.Logic.{below, at_most, equal, pick, either, both, no, one_of, all, any, same, rising_from}
use Rattle.frames.specs.Layout.{length_at, kind_at, next_at, asserts, supposes, lists_symbols, is_statement, class_at, scope_end_at, hyp_count, pair_count, listed_count, rest_from, rest_size, rest_at, hyps_at, pairs_at, symbols_at, typecode_at, variable_at}

-- kinds are 1 to 6
unfoldable pub unknown_kind : ℕ → Bool
unknown_kind k = either (equal k 0) (below 6 k)

-- a name or label does not have 1 to 64 bytes (the rest of a proof record is its text)
unfoldable pub bad_rest : ℕ → ℕ → Bool
bad_rest k size = both (no (equal k 6)) (either (equal size 0) (below 64 size))

-- n is 0 where it must be at least 1
unfoldable pub no_symbols : ℕ → ℕ → Bool
no_symbols k n = both (lists_symbols k) (equal n 0)

-- cut short: the file ends before the record does
unfoldable pub cut_short : List ℕ → ℕ → Bool
cut_short f o = below (length f) (next_at f o)

-- the body is not of its layout: its fixed part and lists do not fit, n is 0, or its name or label has not 1 to 64 bytes
unfoldable pub off_layout : List ℕ → ℕ → Bool
off_layout f o =
    one_of
    (below (next_at f o) (rest_from f o)
    ∷ no_symbols (kind_at f o) (listed_count f o)
    ∷ bad_rest (kind_at f o) (rest_size f o)
    ∷ [])

-- 1 BadRecord: cut short, length below 2, unknown kind, class above 1, body not of its layout
unfoldable pub bad_record : List ℕ → ℕ → Bool
bad_record f o =
    one_of
    (cut_short f o
    ∷ below (length_at f o) 2
    ∷ unknown_kind (kind_at f o)
    ∷ both (equal (kind_at f o) 1) (below 1 (class_at f o))
    ∷ off_layout f o
    ∷ [])

-- 2 TooMany: a limit is passed: 4,096 symbols, 4,096 statements, h 64, d 512, n 1,024, proof text 65,536 bytes (the whole file: see
-- `outcome`)
unfoldable pub too_many : List ℕ → List ℕ → List ℕ → ℕ → Bool
too_many f syms stmts o =
    one_of
    (both (equal (kind_at f o) 1) (at_most 4096 (length syms))
    ∷ both (is_statement (kind_at f o)) (at_most 4096 (length stmts))
    ∷ below 64 (hyp_count f o)
    ∷ below 512 (pair_count f o)
    ∷ below 1024 (listed_count f o)
    ∷ both (equal (kind_at f o) 6) (below 65536 (rest_size f o))
    ∷ [])

-- name bytes are 21 to 7E hex (33 to 126) without 24 hex (36, `$`)
unfoldable pub name_byte : ℕ → Bool
name_byte b = both (both (at_most 33 b) (at_most b 126)) (no (equal b 36))

-- label bytes are letters, digits, `-`, `_`, `.`
unfoldable pub label_byte : ℕ → Bool
label_byte b =
    one_of
    (both (at_most 97 b) (at_most b 122)
    ∷ both (at_most 65 b) (at_most b 90)
    ∷ both (at_most 48 b) (at_most b 57)
    ∷ equal b 45
    ∷ equal b 95
    ∷ equal b 46
    ∷ [])

-- the record at `o` has this name or label
unfoldable pub named : List ℕ → List ℕ → ℕ → Bool
named f text o = same (rest_at f o) text

-- one of the records at these offsets has this name or label
unfoldable pub used : List ℕ → List ℕ → List ℕ → Bool
used f os text = any (named f text) os

-- 3 BadSymbol: illegal name byte, or a name used before
unfoldable pub bad_symbol : List ℕ → List ℕ → ℕ → Bool
bad_symbol f syms o =
    both (equal (kind_at f o) 1) (either (no (all name_byte (rest_at f o))) (used f syms (rest_at f o)))

-- 4 BadLabel: illegal label byte, or a label used before
unfoldable pub bad_label : List ℕ → List ℕ → ℕ → Bool
bad_label f stmts o =
    both (is_statement (kind_at f o)) (either (no (all label_byte (rest_at f o))) (used f stmts (rest_at f o)))

-- the class of a symbol by its number: 2, which is no class, where the number is not defined earlier
unfoldable pub class_of : List ℕ → List ℕ → ℕ → ℕ
class_of f syms s = pick (below s (length syms)) (class_at f (get_or syms s 0)) 2

unfoldable pub constant : List ℕ → List ℕ → ℕ → Bool
constant f syms s = equal (class_of f syms s) 0

unfoldable pub variable : List ℕ → List ℕ → ℕ → Bool
variable f syms s = equal (class_of f syms s) 1

-- a scope end is 4294967295 or above p
unfoldable pub within : ℕ → ℕ → Bool
within end p = either (equal end 4294967295) (below p end)

-- statement s is a $f or $e that is active at statement p: its number is below p, its end is 4294967295 or above p
unfoldable pub active : List ℕ → List ℕ → ℕ → ℕ → Bool
active f stmts p s =
    both (below s p) (both (supposes (kind_at f (get_or stmts s 0))) (within (scope_end_at f (get_or stmts s 0)) p))

-- the symbol number is defined earlier
unfoldable pub defined : List ℕ → ℕ → Bool
defined syms s = below s (length syms)

-- both members of the pair are variables
unfoldable pub variables : List ℕ → List ℕ → ℕ × ℕ → Bool
variables f syms p = both (variable f syms p.0) (variable f syms p.1)

-- row 5 of a statement; a pair member or hypothesis that is not defined earlier fails in its own line
unfoldable pub bad_numbers : List ℕ → List ℕ → List ℕ → ℕ → Bool
bad_numbers f syms stmts o =
    one_of
    (no (all (defined syms) (symbols_at f o))
    ∷ no (constant f syms (typecode_at f o))
    ∷ both (equal (kind_at f o) 2) (no (variable f syms (variable_at f o)))
    ∷ no (all (variables f syms) (pairs_at f o))
    ∷ no (rising_from 0 (hyps_at f o))
    ∷ no (all (active f stmts (length stmts)) (hyps_at f o))
    ∷ [])

-- 5 BadReference: number not defined earlier; typecode not a constant; $f or pair member not a variable; h list not strictly
-- rising, not all $f/$e, or not all active here
unfoldable pub bad_reference : List ℕ → List ℕ → List ℕ → ℕ → Bool
bad_reference f syms stmts o = both (is_statement (kind_at f o)) (bad_numbers f syms stmts o)

-- statement h is a $f of variable v
unfoldable pub float_of : List ℕ → List ℕ → ℕ → ℕ → Bool
float_of f stmts v h = both (equal (kind_at f (get_or stmts h 0)) 2) (equal (variable_at f (get_or stmts h 0)) v)

-- statement h is a $f of variable v, and its number is below `limit`
unfoldable pub float_below : List ℕ → List ℕ → ℕ → ℕ → ℕ → Bool
float_below f stmts limit v h = both (below h limit) (float_of f stmts v h)

-- variable v has a listed $f whose statement number is below `limit`
unfoldable pub has_float : List ℕ → List ℕ → List ℕ → ℕ → ℕ → Bool
has_float f stmts hyps limit v = any (float_below f stmts limit v) hyps

-- the symbol, if it is a variable, has a listed $f below `limit`
unfoldable pub symbol_given : List ℕ → List ℕ → List ℕ → List ℕ → ℕ → ℕ → Bool
symbol_given f syms stmts hyps limit s = either (no (variable f syms s)) (has_float f stmts hyps limit s)

-- every variable among these symbols has a listed $f below `limit`
unfoldable pub all_given : List ℕ → List ℕ → List ℕ → List ℕ → ℕ → List ℕ → Bool
all_given f syms stmts hyps limit xs = all (symbol_given f syms stmts hyps limit) xs

-- statement h is a $e with a variable that has no listed $f, or has it after that $e
unfoldable pub lacks_float : List ℕ → List ℕ → List ℕ → List ℕ → ℕ → Bool
lacks_float f syms stmts hyps h =
    both (equal (kind_at f (get_or stmts h 0)) 3) (no (all_given f syms stmts hyps h (symbols_at f (get_or stmts h 0))))

-- statement h is a $f whose variable has a listed $f before it
unfoldable pub second_float : List ℕ → List ℕ → List ℕ → ℕ → Bool
second_float f stmts hyps h =
    both (equal (kind_at f (get_or stmts h 0)) 2) (has_float f stmts hyps h (variable_at f (get_or stmts h 0)))

-- the two members of the pair are equal
unfoldable pub equal_members : ℕ × ℕ → Bool
equal_members p = equal p.0 p.1

-- row 6 of a $a or $p: a variable of the claim has no listed $f; a variable of a listed $e has none, or has it after that $e; two
-- listed $f for one variable; a pair of equal members
unfoldable pub bad_assertion : List ℕ → List ℕ → List ℕ → ℕ → Bool
bad_assertion f syms stmts o =
    one_of
    (no (all_given f syms stmts (hyps_at f o) (length stmts) (symbols_at f o))
    ∷ any (lacks_float f syms stmts (hyps_at f o)) (hyps_at f o)
    ∷ any (second_float f stmts (hyps_at f o)) (hyps_at f o)
    ∷ any equal_members (pairs_at f o)
    ∷ [])

-- 6 BadFrame: a variable of the claim or of a listed $e has no listed $f, or has it after that $e; two listed $f for one
-- variable; a pair of equal members
unfoldable pub bad_frame : List ℕ → List ℕ → List ℕ → ℕ → Bool
bad_frame f syms stmts o = both (asserts (kind_at f o)) (bad_assertion f syms stmts o)

-- 7 NoProof: the record right after a $p is not kind 6; kind 6 elsewhere (`owed`: the record before this one is a $p; a
-- $p last in the file: see `at_end`)
unfoldable pub no_proof : List ℕ → Bool → ℕ → Bool
no_proof f owed o = pick owed (no (equal (kind_at f o) 6)) (equal (kind_at f o) 6)
